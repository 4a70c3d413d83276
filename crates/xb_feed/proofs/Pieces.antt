-- One piece of a recording after the other.
use Rattle.std.proofs.Common.{◌≡◌, ℕ, List, [], ◌++◌, Option, Some, None, refl, ap, sym, subst, ◌∙◌, append_assoc, string_bytes}
use Rattle.std.specs.Io.KnownBytes.{Appends, Consumes}
use Rattle.std.proofs.KnownBytes.{Appends-nil, Appends-trans, Consumes-nil, Consumes-trans}
use Rattle.xb_feed.specs.declared.feed.Intake.{Intake}
use Rattle.xb_feed.specs.declared.fault.RecordingFault.{RecordingFault}
use Rattle.xb_feed.specs.declared.fault.RecordingFault.TheVariants as faults
use Rattle.xb_feed.specs.declared.reading.Unread.{Unread}
use Rattle.xb_feed.specs.Feeding.{Feeds, IsFaultOfRest, Stops, StopsOf, Writes, Wrote}
use Rattle.xb_feed.specs.Followers.{Follower}
use Rattle.xb_feed.specs.Watches.{watch_of}
use Rattle.xb_feed.specs.Watching.{Watch, certain_text, watch_after}
use Rattle.xb_feed.proofs.Fed.{certain-append, follows_none, follows_then, hears_then, watch_after-append}
use Rattle.xb_feed.proofs.Stopped.{stops_read, wrote_then}

-- one piece after the other
writes_then :
    {C G : Type 0} (kind : Follower C G)
    (old mid new : Intake C G) (bytes more : List ℕ) (a b c : Option (List ℕ)) → Writes kind old bytes mid a b
    → Writes kind mid more new b c → Writes kind old (bytes ++ more) new a c
writes_then kind old mid new bytes more a b c p q =
    let A : List ℕ → Type 0 = λ text. Appends a c text in
    let before : List ℕ = certain_text kind (watch_of old.lines) p.said in
    record {
      said = p.said ++ q.said;
      follows = follows_then old.reader mid.reader new.reader bytes more p.said q.said p.follows q.follows;
      known =
          q.known ∙ ap (λ w. watch_after kind w q.said) p.known ∙ sym (watch_after-append kind (watch_of old.lines) p.said q.said);
      hears = hears_then kind (watch_of old.lines) (watch_of mid.lines) p.said q.said p.hears p.known q.hears;
      wrote =
          subst A
          (ap (λ w. before ++ certain_text kind w q.said) p.known ∙ sym (certain-append kind (watch_of old.lines) p.said q.said))
          (Appends-trans a b c before (certain_text kind (watch_of mid.lines) q.said) p.wrote q.wrote);
      none_left = q.none_left;
    }

pub stops_later :
    {C G : Type 0} (kind : Follower C G)
    (old mid : Intake C G) (bytes more : List ℕ) (fault : RecordingFault) (a b c : Option (List ℕ))
    → Writes kind old bytes mid a b → Stops kind mid.reader (watch_of mid.lines) more fault b c
    → Stops kind old.reader (watch_of old.lines) (bytes ++ more) fault a c
stops_later {C = C} {G = G} kind old mid bytes more fault a b c p s =
    let start : Watch C G = watch_of old.lines in
    let K : Watch C G → Type 0 = λ w. IsFaultOfRest kind s.there w s.later fault s.text in
    let W : List ℕ → Type 0 = λ text. Wrote fault a c text in
    let before : List ℕ = certain_text kind start p.said in
    record {
      taken = bytes ++ s.taken;
      later = s.later;
      are = ap (λ m. bytes ++ m) s.are ∙ sym (append_assoc bytes s.taken s.later);
      there = s.there;
      said = p.said ++ s.said;
      follows = follows_then old.reader mid.reader s.there bytes s.taken p.said s.said p.follows s.follows;
      text = s.text;
      why = subst K (ap (λ w. watch_after kind w s.said) p.known ∙ sym (watch_after-append kind start p.said s.said)) s.why;
      wrote =
          subst W
          (ap (λ w. before ++ (certain_text kind w s.said ++ s.text)) p.known
          ∙ sym (append_assoc before (certain_text kind (watch_after kind start p.said) s.said) s.text)
          ∙ ap (λ text. text ++ s.text) (sym (certain-append kind start p.said s.said)))
          (wrote_then fault a b c before (certain_text kind (watch_of mid.lines) s.said ++ s.text) p.wrote s.wrote);
    }

-- what was fed, and a piece more
pub feeds_none :
    {C G : Type 0} (kind : Follower C G)
    (intake : Intake C G) (input output : Option (List ℕ)) → string_bytes intake.text ≡ []
    → Feeds kind intake intake input input output output
feeds_none kind intake input output empty = record {
  bytes = [];
  read = Consumes-nil input;
  writes = record {
    said = [];
    follows = follows_none intake.reader;
    known = refl;
    hears = tt;
    wrote = Appends-nil output;
    none_left = empty;
  };
}

pub feeds_piece :
    {C G : Type 0} (kind : Follower C G)
    (old mid new : Intake C G) (input left rest a b c : Option (List ℕ)) (bytes piece : List ℕ)
    → Feeds kind old mid input left a b → Consumes left rest bytes → Writes kind mid piece new b c → piece ≡ bytes
    → Feeds kind old new input rest a c
feeds_piece kind old mid new input left rest a b c bytes piece fed read wrote same =
    let P : List ℕ → Type 0 = λ taken. Writes kind mid taken new b c in
    record {
      bytes = fed.bytes ++ bytes;
      read = Consumes-trans input left rest fed.bytes bytes fed.read read;
      writes = writes_then kind old mid new fed.bytes bytes a b c fed.writes (subst P same wrote);
    }

-- a fault of a piece
pub fed_fault :
    {C G : Type 0} (kind : Follower C G)
    (old mid : Intake C G) (input left rest a b c : Option (List ℕ)) (bytes piece : List ℕ) (fault : RecordingFault)
    → Feeds kind old mid input left a b → Consumes left rest bytes → piece ≡ bytes
    → ((later : List ℕ) → Stops kind mid.reader (watch_of mid.lines) (piece ++ later) fault b c) → StopsOf kind old input fault a c
fed_fault kind old mid None left rest a b c bytes piece fault fed read same stops = tt
fed_fault kind old mid (Some text) None rest a b c bytes piece fault fed read same stops = absurd fed.read
fed_fault kind old mid (Some text) (Some left) None a b c bytes piece fault fed read same stops = absurd read
fed_fault kind old mid (Some text) (Some left) (Some rest) a b c bytes piece fault fed read same stops =
    let P : List ℕ → Type 0 = λ t. Stops kind old.reader (watch_of old.lines) t fault a c in
    subst P (sym (fed.read ∙ ap (λ l. fed.bytes ++ l) (read ∙ ap (λ p. p ++ rest) (sym same))))
    (stops_later kind old mid fed.bytes (piece ++ rest) fault a b c fed.writes (stops rest))

-- a read that failed
pub fed_read :
    {C G : Type 0} (kind : Follower C G)
    (old mid : Intake C G) (input left a b : Option (List ℕ)) (unread : Unread) → Feeds kind old mid input left a b
    → StopsOf kind old input (faults.Read unread) a b
fed_read kind old mid input left a b unread fed =
    fed_fault kind old mid input left left a b b [] [] (faults.Read unread) fed (Consumes-nil left) refl
    (λ later. stops_read kind mid.reader (watch_of mid.lines) later unread b)
