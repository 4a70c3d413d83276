-- A window that goes on by a group.
use Rattle.std.proofs.Common.{◌≡◌, ◌∙◌, ℕ, ◌+◌, ◌-◌, ◌*◌, ◌≤◌, List, ◌++◌, length, take, drop, ap, sym, arith, length-drop}
use Rattle.std.specs.List.{copy_within}
use Rattle.std.proofs.lemmas.List.{drop-take}
use Rattle.std.proofs.lemmas.List.Edits.{take-paste}
use Rattle.std.proofs.lemmas.Slice.{take-put_mid}
use Rattle.std.proofs.lemmas.List.{length-take}
use borrow.Rule.Slice.PartMut.{put_mid, mid_of}

module _ {A : Type 0} (old group : List A) (g all at size : ℕ) (whole : all ≡ 8 * g) (starts : at ≡ all - g) (ends : size ≡ all - at)
    (room : all ≤ length old) where
  -- a group has its place there
  pub group-size : length group ≡ length (mid_of at size old) → length group ≡ g
  group-size same = omega (arith, same, length-take {A = A}, length-drop {A = A}, whole, starts, ends, room)

  -- a group that was read stands after those before it
  pub filled : length group ≡ g → take all (put_mid at size old group) ≡ take (7 * g) old ++ group
  filled long =
      take-put_mid at size old group all (omega (arith, whole, starts, long)) (omega (arith, starts, room))
      ∙ ap (λ (n : ℕ). take n old ++ group) (omega (arith, whole, starts))

  -- and the first one is let go
  pub slid : (new : List A) → length group ≡ g → all ≤ length (put_mid at size old group)
      → new ≡ copy_within (put_mid at size old group) g all 0
      → take (7 * g) new ≡ drop g (take (7 * g) old ++ group)
  slid new long fits is =
      let filling = put_mid at size old group in
      let few : all - g ≤ length (drop g filling) = omega (arith, length-drop g filling, fits) in
      let n : 7 * g ≡ 0 + (all - g) = omega (arith, whole) in
      ap (take (7 * g)) is
      ∙ ap (λ (n : ℕ). take n (copy_within filling g all 0)) n
      ∙ take-paste filling 0 (drop g filling) (all - g) (omega arith) few
      ∙ sym (drop-take g (all - g) filling)
      ∙ ap (λ (n : ℕ). drop g (take n filling)) (omega (arith, whole))
      ∙ ap (drop g) (filled long)
