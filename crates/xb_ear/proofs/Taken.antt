-- What a receiver has taken, with one sample more.
use Rattle.std.proofs.Common.{◌≡◌, ◌∙◌, ℕ, ◌+◌, ◌*◌, ◌<◌, ◌≤◌, List, [], ◌∷◌, ◌++◌, drop, fold, length, sym, ap, arith, ℤ, append-nil, length-drop, Option}
use Rattle.std.proofs.lemmas.List.Sums.{fold-append}
use Rattle.xb_model.specs.Image.{image_from}
use Rattle.xb_ear.specs.declared.sight.Sight.{Sight}
use Rattle.xb_ear.specs.declared.hearing.Heard.{Heard}
use Rattle.xb_ear.specs.declared.hearing.Hearing.{Hearing}
use Rattle.xb_ear.specs.Pairs.{seen}
use Rattle.xb_ear.specs.Hearings.{hearer, listed}
use Rattle.xb_ear.specs.Levels.{levels_of}
use Rattle.xb_ear.specs.Steady.{beside, lessened}
use Rattle.xb_ear.specs.Ears.{heard, hearing_after, held_before, least_before, recent_of, sights, windows_in}
use Rattle.xb_ear.specs.Receivers.{HasReceived, Receiving, keys_of_sound}
use Rattle.xb_ear.specs.Tails.{without_tail}
use Rattle.xb_model.proofs.Images.{image_from-append}
use Rattle.xb_ear.proofs.Windows.{held-more, held-same, least-more, least-same, recent-more, recent-same, sights-more, sights-same}

-- how many samples wait
waits : (samples : List ℤ) → 20 * windows_in (length samples) ≤ length samples
waits samples = omega arith

pub taken-same : (old new : Receiving) (samples : List ℤ) (keys : List Heard) (x : ℤ) → HasReceived old samples keys
    → length old.recent + 1 < 80 → new.recent ≡ old.recent ++ x ∷ [] → new.held ≡ old.held → new.least ≡ old.least
    → new.hearing ≡ old.hearing → HasReceived new (samples ++ x ∷ []) (keys ++ [])
taken-same old new samples keys x taken few recent held least hearing =
    let n : length old.recent ≡ length (recent_of samples) = ap (λ (zs : List ℤ). length zs) taken.recent in
    let short : length samples + 1 < 20 * windows_in (length samples) + 80 =
    omega (arith, n, waits samples, length-drop (20 * windows_in (length samples)) samples) in
    let same = sights-same samples x short in
    record {
      recent = recent ∙ ap (λ (zs : List ℤ). zs ++ x ∷ []) taken.recent ∙ sym (recent-same samples x short);
      held = held ∙ taken.held ∙ sym (held-same samples x short);
      least = least ∙ taken.least ∙ sym (least-same samples x short);
      hearing = hearing ∙ taken.hearing ∙ sym (ap (λ (zs : List (Option Sight)). fold hearer.next hearer.start zs) same);
      given = append-nil keys ∙ taken.given ∙ sym (ap (λ (zs : List (Option Sight)). image_from hearer hearer.start zs) same);
    }

-- what a window sees that begins with some samples, after windows in which such pairs stood out, with so little beside
abbrev pub sees_next : List (Option Sight) → ℕ → List ℤ → ℤ → Option Sight
sees_next held least recent x = without_tail held (seen least (recent ++ x ∷ []))

pub taken-more : (old new : Receiving) (samples : List ℤ) (keys given : List Heard) (x : ℤ) → HasReceived old samples keys
    → length old.recent + 1 ≡ 80 → new.recent ≡ drop 20 (old.recent ++ x ∷ [])
    → new.held ≡ drop 1 old.held ++ seen old.least (old.recent ++ x ∷ []) ∷ []
    → new.least ≡ lessened old.least (beside (levels_of (old.recent ++ x ∷ [])))
    → new.hearing ≡ hearer.next old.hearing (sees_next old.held old.least old.recent x)
    → given ≡ hearer.outs old.hearing (sees_next old.held old.least old.recent x)
    → HasReceived new (samples ++ x ∷ []) (keys ++ given)
taken-more old new samples keys given x taken all recent held least hearing gives =
    let n : length old.recent ≡ length (recent_of samples) = ap (λ (zs : List ℤ). length zs) taken.recent in
    let full : length samples + 1 ≡ 20 * windows_in (length samples) + 80 =
    omega (arith, n, waits samples, length-drop (20 * windows_in (length samples)) samples) in
    let before : Hearing = hearing_after samples in
    let held_so_far : List (Option Sight) = held_before samples (windows_in (length samples)) in
    let least_so_far : ℕ = least_before samples (windows_in (length samples)) in
    let sight : Option Sight = sees_next held_so_far least_so_far (recent_of samples) x in
    let same : sees_next old.held old.least old.recent x ≡ sight =
    ap (λ (hs : List (Option Sight)). sees_next hs old.least old.recent x) taken.held
    ∙ ap (λ (l : ℕ). sees_next held_so_far l old.recent x) taken.least
    ∙ ap (λ (zs : List ℤ). sees_next held_so_far least_so_far zs x) taken.recent in
    let more = sights-more samples x full in
    record {
      recent = recent ∙ ap (λ (zs : List ℤ). drop 20 (zs ++ x ∷ [])) taken.recent ∙ sym (recent-more samples x full);
      held =
          held
          ∙ ap (λ (hs : List (Option Sight)). drop 1 hs ++ seen old.least (old.recent ++ x ∷ []) ∷ []) taken.held
          ∙ ap (λ (l : ℕ). drop 1 held_so_far ++ seen l (old.recent ++ x ∷ []) ∷ []) taken.least
          ∙ ap (λ (zs : List ℤ). drop 1 held_so_far ++ seen least_so_far (zs ++ x ∷ []) ∷ []) taken.recent
          ∙ sym (held-more samples x full);
      least =
          least
          ∙ ap (λ (l : ℕ). lessened l (beside (levels_of (old.recent ++ x ∷ [])))) taken.least
          ∙ ap (λ (zs : List ℤ). lessened least_so_far (beside (levels_of (zs ++ x ∷ [])))) taken.recent
          ∙ sym (least-more samples x full);
      hearing =
          hearing
          ∙ ap (λ (h : Hearing). hearer.next h (sees_next old.held old.least old.recent x)) taken.hearing
          ∙ ap (λ (s : Option Sight). hearer.next before s) same
          ∙ sym (fold-append hearer.next hearer.start (sights samples) (sight ∷ []))
          ∙ sym (ap (λ (zs : List (Option Sight)). fold hearer.next hearer.start zs) more);
      given =
          ap (λ (ks : List Heard). ks ++ given) taken.given
          ∙ ap (λ (ks : List Heard). heard samples ++ ks)
          (gives
          ∙ ap (λ (h : Hearing). hearer.outs h (sees_next old.held old.least old.recent x)) taken.hearing
          ∙ ap (λ (s : Option Sight). hearer.outs before s) same
          ∙ sym (append-nil (hearer.outs before sight)))
          ∙ sym (image_from-append hearer hearer.start (sights samples) (sight ∷ []))
          ∙ sym (ap (λ (zs : List (Option Sight)). image_from hearer hearer.start zs) more);
    }

-- a receiver at the end of its samples
pub finished : (receiver : Receiving) (samples : List ℤ) (keys : List Heard) (key : Option Heard)
    → HasReceived receiver samples keys → key ≡ receiver.hearing.sounding
    → keys ++ listed key ≡ keys_of_sound samples
finished receiver samples keys key taken sounds =
    ap (λ (ks : List Heard). ks ++ listed key) taken.given
    ∙ ap (λ (k : Option Heard). heard samples ++ listed k)
    (sounds ∙ ap (λ (h : Hearing). h.sounding) taken.hearing)
