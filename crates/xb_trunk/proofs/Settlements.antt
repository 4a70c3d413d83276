-- Each keying is settled once.
use Rattle.std.proofs.Common.{◌≡◌, ℕ, ◌+◌, Bool, true, false, List, [], ◌∷◌, ◌++◌, map, drop, Option, refl, sym, ap, ◌∙◌, append_assoc, append-nil}
use Rattle.std.specs.Prelude.{◌==◌, fold, nat_le, if◌then◌else◌}
use Rattle.std.proofs.lemmas.List.{map-append}
use Rattle.xb_model.specs.declared.mark.Mark.{Mark}
use Rattle.xb_model.specs.declared.row.Contact.{Contact}
use Rattle.xb_model.specs.declared.row.Contact.TheVariants.{Make, Brk, Close}
use Rattle.xb_trunk.specs.declared.start_dial.Fate.TheVariants.{Waits, Keyed, GivenUp}
use Rattle.xb_trunk.specs.Leads.{completed, keyings_in}
use Rattle.xb_trunk.specs.Starts.{Dial, Event, clock, lead, after, is_ready, keyings_of, lead_by, no_dial, settled}
use Rattle.xb_trunk.specs.declared.start_dial.TheConstants.{LONGEST_WAIT}
use Rattle.xb_trunk.specs.StartLaws.{EachIsSettledOnce, Settlement, settled_from, settled_in, settlement_of}

abbrev pub marks_in : List Settlement → List (List Mark)
marks_in settlements = map (λ (s : Settlement). s.marks) settlements

abbrev pub dial_of : ℕ → ℕ → ℕ → ℕ → Option ℕ → List (List Mark) → Dial
dial_of l m n s k w = record { lead_ms = l; make_ms = m; now_ms = n; since_ms = s; wink = k; waiting = w }

lead-waiting : (d : Dial) (contact : Contact) (ms : ℕ) (t : Bool) → (if t then d else lead_by d contact ms).waiting ≡ d.waiting
lead-waiting d contact ms true = refl
lead-waiting d Make ms false = refl
lead-waiting d Brk ms false = refl
lead-waiting d Close ms false = refl

clock-rest : (d : Dial) (now : ℕ) (x : List Mark) (xs ks : List (List Mark)) (t u : Bool) → d.waiting ≡ x ∷ xs
    → marks_in (settlement_of (if t then Keyed else if u then GivenUp else Waits) (x ∷ xs)) ++ ((settled d now (if t then Keyed else if u then GivenUp else Waits)).waiting ++ ks) ≡ (x ∷ xs) ++ ks
clock-rest d now x xs ks true u is = ap (λ (w : List (List Mark)). x ∷ (drop 1 w ++ ks)) is
clock-rest d now x xs ks false true is = ap (λ (w : List (List Mark)). x ∷ (drop 1 w ++ ks)) is
clock-rest d now x xs ks false false is = ap (λ (w : List (List Mark)). w ++ ks) is

clock-one : (l m n s : ℕ) (k : Option ℕ) (w : List (List Mark)) (ms : ℕ) (marks : List Mark)
    → marks_in (settled_in (dial_of l m n s k w) (clock ms marks)) ++ (after (dial_of l m n s k w) (clock ms marks)).waiting ≡ w ++ keyings_of marks
clock-one l m n s k [] ms marks = refl
clock-one l m n s k (x ∷ xs) ms marks =
    clock-rest (dial_of l m n s k (x ∷ xs)) (n + ms) x xs (keyings_of marks) (is_ready (n + ms) k) (nat_le (s + LONGEST_WAIT) (n + ms)) refl

one : (d : Dial) (event : Event) → marks_in (settled_in d event) ++ (after d event).waiting ≡ d.waiting ++ keyings_in event
one d (lead contact ms) = lead-waiting d contact ms (ms == 0) ∙ sym (append-nil d.waiting)
one d (clock ms marks) = clock-one d.lead_ms d.make_ms d.now_ms d.since_ms d.wink d.waiting ms marks

go : (d : Dial) (events : List Event) → marks_in (settled_from d events) ++ (fold after d events).waiting ≡ d.waiting ++ completed events
go d [] = sym (append-nil d.waiting)
go d (event ∷ events) =
    ap (λ (ms : List (List Mark)). ms ++ (fold after (after d event) events).waiting) (map-append (λ (s : Settlement). s.marks) (settled_in d event) (settled_from (after d event) events))
    ∙ append_assoc (marks_in (settled_in d event)) (marks_in (settled_from (after d event) events)) (fold after (after d event) events).waiting
    ∙ ap (λ (ms : List (List Mark)). marks_in (settled_in d event) ++ ms) (go (after d event) events)
    ∙ sym (append_assoc (marks_in (settled_in d event)) (after d event).waiting (completed events))
    ∙ ap (λ (ms : List (List Mark)). ms ++ completed events) (one d event)
    ∙ append_assoc d.waiting (keyings_in event) (completed events)

pub each_is_settled_once : EachIsSettledOnce
each_is_settled_once events = go no_dial events
