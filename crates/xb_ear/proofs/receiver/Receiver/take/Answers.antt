use Rattle.std.proofs.Common.{◌≡◌, ◌∙◌, ℕ, ◌+◌, ◌<◌, List, [], ◌∷◌, ◌++◌, take, drop, length, set, sym, ap, subst, arith, refl, ℤ, to_z, of_z, Option, length-take, length-set}
use Rattle.std.specs.Int.{w16}
use Rattle.std.proofs.lemmas.Int.{to_z-of_z}
use Rattle.std.proofs.lemmas.List.{take_all, take_more_set}
use Rattle.xb_ear.specs.declared.sight.Sight.{Sight}
use Rattle.xb_ear.specs.declared.hearing.Heard.{Heard}
use Rattle.xb_ear.specs.Hearings.{hearer, listed}
use Rattle.xb_ear.specs.declared.levels.Levels.{Levels}
use Rattle.xb_ear.specs.Levels.{levels_of}
use Rattle.xb_ear.specs.Pairs.{first_pair, mf_pairs, seen}
use Rattle.xb_ear.specs.Steady.{beside, lessened}
use Rattle.xb_ear.specs.Receivers.{HasReceived}
use Rattle.xb_ear.specs.Tails.{without_tail}
use Rattle.xb_ear.proofs.Taken.{sees_next, taken-more, taken-same}
use Rattle.xb_ear.proofs.receiver.Receiver.take.Goals as goal

pub returns-then-self-lt-WINDOW : goal.returns-then-self-lt-WINDOW
returns-then-self-lt-WINDOW c samples keys taken =
    let window = c.self.inside.window in
    let filled : ℕ = c.self.inside.filled in
    let x : ℤ = c.args.sample in
    let below : filled < length window = omega (arith, c.self.told, c.if-self-lt-WINDOW.true) in
    let written : take (filled + 1) (set window filled (to_z w16 (of_z w16 x))) ≡ take filled window ++ x ∷ [] =
    ap (λ (y : ℤ). take (filled + 1) (set window filled y)) (to_z-of_z w16 x c.ranges.sample)
    ∙ take_more_set window filled x below in
    let before = subst (λ receiver. HasReceived receiver samples keys) (sym c.self.view_is) taken in
    let few : length (take filled window) + 1 < 80 = omega (arith, length-take filled window, c.self.told, c.if-self-lt-WINDOW.true) in
    taken-same _ _ samples keys x before few written refl refl refl

pub returns : goal.returns
returns c samples keys taken =
    let window = c.self.inside.window in
    let filled : ℕ = c.self.inside.filled in
    let held = c.self.inside.held in
    let x : ℤ = c.args.sample in
    let last : filled + 1 ≡ 80 = omega (arith, c.self.invariant, c.if-self-lt-WINDOW.false) in
    let below : filled < length window = omega (arith, c.self.told, last) in
    let all = set window filled (to_z w16 (of_z w16 x)) in
    let written : all ≡ take filled window ++ x ∷ [] =
    sym (take_all (filled + 1) all (omega (arith, last, c.self.told, length-set window filled (to_z w16 (of_z w16 x)))))
    ∙ ap (λ (y : ℤ). take (filled + 1) (set window filled y)) (to_z-of_z w16 x c.ranges.sample)
    ∙ take_more_set window filled x below in
    let before = subst (λ receiver. HasReceived receiver samples keys) (sym c.self.view_is) taken in
    let full : length (take filled window) + 1 ≡ 80 = omega (arith, length-take filled window, c.self.told, last) in
    let least : ℕ = c.self.inside.least in
    let levels : c.levels_of-levels.result ≡ levels_of (take filled window ++ x ∷ []) =
    c.levels_of-levels.ensures.value ∙ ap (λ (zs : List ℤ). levels_of zs) written in
    let sight : c.seen-sight.result ≡ seen least (take filled window ++ x ∷ []) =
    c.seen-sight.ensures.value ∙ ap (λ (ls : Levels). first_pair least ls mf_pairs) levels in
    let sees : c.without_tail.result ≡ sees_next held least (take filled window) x =
    c.without_tail.ensures ∙ ap (λ (s : Option Sight). without_tail held s) sight in
    let recent : take 60 c.shifted-self-inside.result ≡ drop 20 (take filled window ++ x ∷ []) =
    c.shifted-self-inside.ensures ∙ ap (λ (zs : List ℤ). drop 20 zs) written in
    taken-more _ _ samples keys _ x before full recent
    (c.move_on.ensures ∙ ap (λ (s : Option Sight). drop 1 held ++ s ∷ []) sight)
    (c.lessened-self-inside.ensures
    ∙ ap (λ (n : ℕ). lessened least n) (c.beside.ensures ∙ ap (λ (ls : Levels). beside ls) levels))
    (c.hear-key.ensures.next ∙ ap (λ (s : Option Sight). hearer.next c.self.inside.hearing s) sees)
    (ap (λ (k : Option Heard). listed k) c.hear-key.ensures.key
    ∙ ap (λ (s : Option Sight). hearer.outs c.self.inside.hearing s) sees)
