use Rattle.std.proofs.Common.{◌≡◌, ◌∙◌, List, [], ◌∷◌, ◌++◌, map, ap, sym, zero-add, ℤ, to_z, of_z, FitsSigned, rules, arith}
use Rattle.std.specs.Int.{w16}
use Rattle.std.specs.List.{range_with_len}
use Rattle.std.proofs.lemmas.Int.{to_z-of_z}
use Rattle.std.proofs.lemmas.List.{take_more_set, length-set}
use Rattle.std.proofs.lemmas.List.FromFn.{map-range_with_len_more}
use Rattle.xb_sound.specs.Sines.{pair_sample}
use Rattle.xb_sound.proofs.samples.fill_tone.Goals as goal

pub loop-n-preserved : goal.loop-n-preserved
loop-n-preserved c =
    let fits : FitsSigned w16 c.pair_sample.result = search rules in
    let y = to_z w16 (of_z w16 c.pair_sample.result) in
    let is : y ≡ pair_sample c.args.tone c.loop-n.n = to_z-of_z w16 c.pair_sample.result fits ∙ c.pair_sample.ensures in
    record {
      written =
          take_more_set c.loop-n.room c.loop-n.n y (omega (arith, c.loop-n-test.true, c.loop-n.invariant.length))
          ∙ ap (λ (xs : List ℤ). xs ++ y ∷ []) c.loop-n.invariant.written
          ∙ ap (λ (z : ℤ). map (λ n. pair_sample c.args.tone n) (range_with_len 0 c.loop-n.n) ++ z ∷ []) is
          ∙ sym (map-range_with_len_more (λ n. pair_sample c.args.tone n) 0 c.loop-n.n c.loop-n.n (zero-add c.loop-n.n));
      length = length-set c.loop-n.room c.loop-n.n y ∙ c.loop-n.invariant.length;
    }
