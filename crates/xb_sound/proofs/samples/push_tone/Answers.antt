use Rattle.std.proofs.Common.{◌≡◌, ◌∙◌, ℕ, ◌+◌, List, [], ◌∷◌, ◌++◌, map, ap, sym, zero-add, append_assoc, ℤ, to_z, of_z, FitsSigned, rules}
use Rattle.std.specs.Int.{w16}
use Rattle.std.specs.List.{range_with_len}
use Rattle.std.proofs.lemmas.Int.{to_z-of_z}
use Rattle.std.proofs.lemmas.List.FromFn.{map-range_with_len_more}
use Rattle.xb_sound.specs.Sines.{pair_sample}
use Rattle.xb_sound.proofs.samples.push_tone.Goals as goal

-- one sample more of a wave
more : (f : ℕ → ℤ) (n : ℕ) (old now new : List ℤ) (x y : ℤ) → now ≡ old ++ map f (range_with_len 0 n)
    → new ≡ now ++ y ∷ [] → y ≡ x → x ≡ f n → new ≡ old ++ map f (range_with_len 0 (n + 1))
more f n old now new x y before pushed read is =
    let so_far = map f (range_with_len 0 n) in
    pushed
    ∙ ap (λ (xs : List ℤ). xs ++ y ∷ []) before
    ∙ append_assoc old so_far (y ∷ [])
    ∙ ap (λ (z : ℤ). old ++ (so_far ++ z ∷ [])) (read ∙ is)
    ∙ ap (λ (xs : List ℤ). old ++ xs) (sym (map-range_with_len_more f 0 n n (zero-add n)))

pub loop-n-preserved : goal.loop-n-preserved
loop-n-preserved c =
    let fits : FitsSigned w16 c.pair_sample.result = search rules in
    more (λ n. pair_sample c.args.tone n) c.loop-n.n c.args.samples.now.items c.loop-n.samples.items
    c.push.new.self.items c.pair_sample.result (to_z w16 (of_z w16 c.pair_sample.result))
    c.loop-n.invariant c.in_ok-push.ensures.items (to_z-of_z w16 c.pair_sample.result fits) c.pair_sample.ensures
