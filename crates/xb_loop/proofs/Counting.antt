-- Pieces of a recording that are counted one after the other.
use Rattle.std.proofs.Common.{◌≡◌, ℕ, zero, suc, ◌+◌, ◌-◌, ◌^◌, ◌<◌, ◌≤◌, min, replicate, List, [], ◌∷◌, ◌++◌, Bool, true, false, cond, Option, Some, None, length, take, refl, ap, sym, subst, ◌∙◌, append_assoc, add-one, get_or}
use Rattle.std.specs.Prelude.{option_map, slice_get, IfNone, IfSome, ◌==◌}
use Rattle.std.specs.Io.KnownBytes.{Consumes, IsAtEnd, prepend_known}
use Rattle.std.proofs.Math.Seq.{take-suc}
use Rattle.std.proofs.lemmas.List.{take_all}
use Rattle.std.proofs.lemmas.Option.{slice_get-map}
use Rattle.std.proofs.KnownBytes.{Consumes-nil, Consumes-trans}
use Rattle.xb_contact.specs.declared.event.Event.{Event}
use Rattle.xb_contact.specs.declared.event.Event.TheVariants as events
use Rattle.xb_contact.specs.declared.level.Level.{Level}
use Rattle.xb_recording.specs.declared.reader.Reader.{Reader}
use Rattle.xb_recording.specs.declared.format.Format.{Format}
use Rattle.xb_recording.specs.declared.wanted.Wanted.{Wanted}
use Rattle.xb_recording.specs.Says.{Begins, RestSays, Takes, names_in}
use Rattle.xb_loop.specs.declared.counts.Seen.{Seen}
use Rattle.xb_loop.specs.declared.listing.Counter.{Counter}
use Rattle.xb_loop.specs.Counts.{IsCountedAfter, edges_in, level_seen, levels_seen, nothing_seen, said_of}
use Rattle.xb_loop.proofs.Counted.{edges_are_seen}
use Rattle.xb_loop.specs.Listing.{CountsMore, CountsOn, CountsRest, HasEdges, IsCount, ListsWires, edges_of}
use Rattle.xb_loop.specs.declared.listing.Listing.{Listing}
use Rattle.xb_loop.specs.declared.listing.TheConstants.{MOST_BEGINNING_BYTES}
use Rattle.xb_loop.specs.Names.{named_by, named_in}
use Rattle.xb_loop.specs.Wires.{names_told}
use Rattle.xb_samples.specs.Thresholds.{Percent}
use Rattle.std.specs.declared.vec.Vec.{Vec}
use Rattle.std.specs.declared.alloc.Global.{Global}
use Rattle.xb_recording.specs.Beginnings.{form_told}

one-more :
    {T : Type 0} (here : Bool) (first : T) (said later all : List T) → all ≡ said ++ later
    → cond here (first ∷ all) all ≡ cond here (first ∷ said) said ++ later
one-more true first said later all e = ap (λ l. first ∷ l) e
one-more false first said later all e = e

levels-append :
    (wire : ℕ) (said later : List Event) → said_of wire (said ++ later) ≡ said_of wire said ++ said_of wire later
levels-append wire [] later = refl
levels-append wire (events.Ticks scale ∷ said) later = levels-append wire said later
levels-append wire (events.At tick ∷ said) later = levels-append wire said later
levels-append wire (events.Level other level ∷ said) later =
    one-more (other == wire) (false, level) (said_of wire said) (said_of wire later) (said_of wire (said ++ later))
    (levels-append wire said later)
levels-append wire (events.Edge other level ∷ said) later =
    one-more (other == wire) (true, level) (said_of wire said) (said_of wire later) (said_of wire (said ++ later))
    (levels-append wire said later)

seen-append :
    (own : Seen) (levels later : List (Bool × Level))
    → levels_seen own (levels ++ later) ≡ levels_seen (levels_seen own levels) later
seen-append own [] later = refl
seen-append own (level ∷ levels) later = seen-append (level_seen own level) levels later

counted-then :
    (old mid new : List Seen) (said later : List Event) → IsCountedAfter old said mid
    → IsCountedAfter mid later new → IsCountedAfter old (said ++ later) new
counted-then old mid new said later p q wire =
    q wire ∙ ap (option_map (λ own. levels_seen own (said_of wire later))) (p wire) ∙ at (slice_get old wire)
  where
    at :
        (own : Option Seen)
        → option_map (λ own. levels_seen own (said_of wire later)) (option_map (λ own. levels_seen own (said_of wire said)) own)
        ≡ option_map (λ own. levels_seen own (said_of wire (said ++ later))) own
    at None = refl
    at (Some own) =
        ap (λ s. Some s)
        (sym (ap (levels_seen own) (levels-append wire said later)
        ∙ seen-append own (said_of wire said) (said_of wire later)))

takes-then :
    (old mid new : Reader) (bytes more : List ℕ) (said later : List Event) → Takes old mid bytes said
    → Takes mid new more later → Takes old new (bytes ++ more) (said ++ later)
takes-then old mid new bytes more said later p q text rest says =
    let T : List ℕ → Type 0 = λ t. RestSays old t ((said ++ later) ++ rest) in
    let E : List Event → Type 0 = λ e. RestSays old (bytes ++ (more ++ text)) e in
    subst T (sym (append_assoc bytes more text))
    (subst E (sym (append_assoc said later rest)) (p (more ++ text) (later ++ rest) (q text rest says)))

pub counts_then :
    (old mid new : Counter) (bytes more : List ℕ) → CountsOn old bytes mid → CountsOn mid more new
    → CountsOn old (bytes ++ more) new
counts_then old mid new bytes more p q =
    record {
      said = p.said ++ q.said;
      takes = takes-then old.reader mid.reader new.reader bytes more p.said q.said p.takes q.takes;
      seen = counted-then old.counts.seen.items mid.counts.seen.items new.counts.seen.items p.said q.said p.seen q.seen;
    }

nothing-counted : (old : List Seen) → IsCountedAfter old [] old
nothing-counted old wire = at (slice_get old wire)
  where
    at : (own : Option Seen) → own ≡ option_map (λ own. levels_seen own []) own
    at None = refl
    at (Some own) = refl

pub counts_none : (old : Counter) → CountsOn old [] old
counts_none old = record {
  said = [];
  takes = λ text rest says. says;
  seen = nothing-counted old.counts.seen.items;
}

-- a piece, byte by byte
pub counts_byte :
    (old mid new : Counter) (piece : List ℕ) (i byte : ℕ) → i < length piece → byte ≡ get_or piece i byte
    → CountsOn old (take i piece) mid → CountsOn mid (byte ∷ []) new → CountsOn old (take (i + 1) piece) new
counts_byte old mid new piece i byte within is p q =
    let K : List ℕ → Type 0 = λ bytes. CountsOn old bytes new in
    let same : take i piece ++ byte ∷ [] ≡ take (i + 1) piece =
    ap (λ b. take i piece ++ b ∷ []) is ∙ sym (ap (λ n. take n piece) (add-one i) ∙ take-suc piece i byte within) in
    subst K same (counts_then old mid new (take i piece) (byte ∷ []) p q)

pub counts_piece :
    (old new : Counter) (piece : List ℕ) (i : ℕ) → length piece ≤ i → CountsOn old (take i piece) new → CountsOn old piece new
counts_piece old new piece i all p =
    let K : List ℕ → Type 0 = λ bytes. CountsOn old bytes new in
    subst K (take_all i piece all) p

-- what an input gave, and a piece more
pub counts_more_none : (old : Counter) (input : Option (List ℕ)) → CountsMore old old input input
counts_more_none old input = record { bytes = []; read = Consumes-nil input; counts = counts_none old }

pub counts_more_then :
    (old mid new : Counter) (input left less : Option (List ℕ)) (piece taken : List ℕ) → CountsMore old mid input left
    → Consumes left less piece → CountsOn mid taken new → taken ≡ piece → CountsMore old new input less
counts_more_then old mid new input left less piece taken p read q same =
    let K : List ℕ → Type 0 = λ bytes. CountsOn mid bytes new in
    record {
      bytes = p.bytes ++ piece;
      read = Consumes-trans input left less p.bytes piece p.read read;
      counts = counts_then old mid new p.bytes piece p.counts (subst K same q);
    }

-- the rest after a piece
pub rest_then :
    (old mid : Counter) (bytes text : List ℕ) (seen : List Seen) → CountsOn old bytes mid → CountsRest mid text seen
    → CountsRest old (bytes ++ text) seen
rest_then old mid bytes text seen p q =
    record {
      events = p.said ++ q.events;
      says = p.takes text q.events q.says;
      counted = counted-then old.counts.seen.items mid.counts.seen.items seen p.said q.events p.seen q.counted;
    }

-- all of a recording of which this was read already
pub whole_rest :
    (old mid new : Counter) (beginning : List ℕ) (input left : Option (List ℕ)) (seen : List Seen)
    → CountsOn old beginning mid → CountsMore mid new input left → IsAtEnd left → CountsRest new [] seen
    → IfSome (prepend_known beginning input) (λ text. CountsRest old text seen)
whole_rest old mid new beginning None left seen p q end r = tt
whole_rest old mid new beginning (Some text) None seen p q end r = absurd q.read
whole_rest old mid new beginning (Some text) (Some rest) seen p q end r =
    let K : List ℕ → Type 0 = λ t. CountsRest old (beginning ++ t) seen in
    let are : q.bytes ++ [] ≡ text = ap (λ l. q.bytes ++ l) (sym end) ∙ sym q.read in
    subst K are (rest_then old mid beginning (q.bytes ++ []) seen p (rest_then mid new q.bytes [] seen q.counts r))

-- the edges of the wires that are wanted
begun-seen :
    (names : List (List ℕ)) (wire : ℕ)
    → slice_get (replicate (length names) nothing_seen) wire ≡ option_map (λ name. nothing_seen) (slice_get names wire)
begun-seen [] wire = refl
begun-seen (name ∷ names) zero = refl
begun-seen (name ∷ names) (suc wire) = begun-seen names wire

edges-of-wire :
    (names : List (List ℕ)) (wire : ℕ) (said : List Event) (seen : List Seen)
    → IsCountedAfter (replicate (length names) nothing_seen) said seen
    → slice_get (edges_of seen) wire
    ≡ option_map (λ name. min (edges_in (said_of wire said)) (2 ^ 64 - 1)) (slice_get names wire)
edges-of-wire names wire said seen counted =
    slice_get-map (λ (own : Seen). own.edges) seen wire
    ∙ ap (option_map (λ own. own.edges)) (counted wire ∙ ap (option_map (λ own. levels_seen own (said_of wire said))) (begun-seen names wire))
    ∙ at (slice_get names wire)
  where
    at :
        (name : Option (List ℕ))
        → option_map (λ (own : Seen). own.edges) (option_map (λ own. levels_seen own (said_of wire said)) (option_map (λ name. nothing_seen) name))
        ≡ option_map (λ name. min (edges_in (said_of wire said)) (2 ^ 64 - 1)) name
    at None = refl
    at (Some name) = ap (λ n. Some n) (edges_are_seen (said_of wire said))

pub has_edges :
    (known : Option (List ℕ)) (format : Format) (wanted : Wanted) (counter : Counter) (before : List Event)
    (seen : List Seen) (edges : List ℕ) → Begins format wanted counter.reader before
    → IsCountedAfter (replicate (length (names_in wanted)) nothing_seen) before counter.counts.seen.items
    → edges ≡ edges_of seen → IfSome known (λ text. CountsRest counter text seen)
    → IfSome known (λ text. HasEdges format wanted text edges)
has_edges None format wanted counter before seen edges begins counted are rest = tt
has_edges (Some text) format wanted counter before seen edges begins counted are rest =
    let all : IsCountedAfter (replicate (length (names_in wanted)) nothing_seen) (before ++ rest.events) seen =
    counted-then (replicate (length (names_in wanted)) nothing_seen) counter.counts.seen.items seen before rest.events
    counted rest.counted in
    record {
      events = before ++ rest.events;
      said = begins text rest.events rest.says;
      are = λ wire. ap (λ them. slice_get them wire) are
          ∙ edges-of-wire (names_in wanted) wire (before ++ rest.events) seen all;
    }

pub is_count :
    (known : Option (List ℕ)) (format : Format) (wanted : Wanted) (names : List (List ℕ)) (edges : List ℕ)
    → names_in wanted ≡ names → wanted.lossy ≡ true → IfSome known (λ text. HasEdges format wanted text edges)
    → IfSome known (λ text. IsCount format names wanted.rate wanted.threshold text edges)
is_count None format wanted names edges wires lossy has = tt
is_count (Some text) format wanted names edges wires lossy has = record {
  wanted = wanted;
  wires = wires;
  rate_is = refl;
  threshold_is = refl;
  lossy = lossy;
  edges_are = has;
}

-- the wires of a recording
pub lists_wires :
    (known left : Option (List ℕ)) (beginning : List ℕ) (is_end : Bool) (asked : Option Format) (rate : Option ℕ)
    (threshold : Percent) (format : Format) (listing : Listing) → Consumes known left beginning
    → (is_end ≡ true → IsAtEnd left) → (is_end ≡ false → MOST_BEGINNING_BYTES ≤ length beginning)
    → IfSome asked (λ it. format ≡ it)
    → IfNone asked ((later : List ℕ) → (is_end ≡ true → later ≡ []) → form_told (beginning ++ later) ≡ Some format)
    → named_in listing.wires ≡ named_by (names_told format is_end beginning)
    → IfSome listing.edges (λ edges. IfSome (prepend_known beginning left)
    (λ text. IsCount format (named_in listing.wires).names rate threshold text edges.items))
    → IfSome known (λ text. ListsWires asked rate threshold text listing)
lists_wires None left beginning is_end asked rate threshold format listing read end long named told names counted = tt
lists_wires (Some text) None beginning is_end asked rate threshold format listing read end long named told names counted =
    absurd read
lists_wires (Some text) (Some rest) beginning is_end asked rate threshold format listing read end long named told names counted =
    record {
      format = format;
      form = record { named = named; told = by asked told };
      beginning = beginning;
      later = rest;
      are = read;
      is_end = is_end;
      all = end;
      long = long;
      names = names;
      counted = with listing.edges counted;
    }
  where
    by :
        (asked : Option Format)
        → IfNone asked ((later : List ℕ) → (is_end ≡ true → later ≡ []) → form_told (beginning ++ later) ≡ Some format)
        → IfNone asked (form_told text ≡ Some format)
    by None tells = ap form_told read ∙ tells rest end
    by (Some it) tells = tt

    with :
        (edges : Option (Vec ℕ Global))
        → IfSome edges (λ edges. IsCount format (named_in listing.wires).names rate threshold (beginning ++ rest) edges.items)
        → IfSome edges (λ edges. IsCount format (named_by (names_told format is_end beginning)).names rate threshold text edges.items)
    with None counts = tt
    with (Some edges) counts =
        let T : List ℕ → Type 0 = λ t. IsCount format (named_by (names_told format is_end beginning)).names rate threshold t edges.items in
        let N : List (List ℕ) → Type 0 = λ n. IsCount format n rate threshold (beginning ++ rest) edges.items in
        subst T (sym read) (subst N (ap (λ them. them.names) names) counts)
