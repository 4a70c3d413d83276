use Rattle.std.proofs.Common.{◌≡◌, ◌∙◌, ℕ, ℤ, ◌+◌, ◌*◌, ◌-◌, ◌<◌, Bool, true, false, ◌&&◌, ap, sym, arith, FitsSigned, to_z, of_z, rules}
use Rattle.std.specs.Int.{w32}
use Rattle.std.specs.List.{list_all, range_with_len}
use Rattle.std.proofs.lemmas.Int.{to_z-of_z}
use Rattle.xb_signal.specs.OneSample.{clean_sample, has_room, peak_of}
use Rattle.xb_signal.proofs.Ranges.{all_fail, all_left}
use Rattle.xb_signal.proofs.sample_range.samples_fit.Goals as goal

-- whether a sample of 32 bits has room, which it was asked
room-known : {room : Bool} {peak most : ℕ} {clean : ℤ} (x : ℤ) → FitsSigned w32 x
    → room ≡ has_room peak (to_z w32 (of_z w32 x)) → peak ≡ most → x ≡ clean → has_room most clean ≡ room
room-known {most} x fits asked same is =
    sym (asked ∙ ap (λ (p : ℕ). has_room p (to_z w32 (of_z w32 x))) same
    ∙ ap (has_room most) (to_z-of_z w32 x fits ∙ is))

pub loop-n-preserved : goal.loop-n-preserved
loop-n-preserved c =
    let n = c.loop-n.n in
    let all : ℕ = c.args.ms * 8 in
    let test : ℕ → Bool =
    λ n. has_room (peak_of c.args.setting.now) (clean_sample c.args.setting.now 0 c.args.sound.now n) in
    let below : n < all = omega (arith, c.loop-n-test.true, c.from-n-end.ensures) in
    let yes : c.has_room.result ≡ true = search rules in
    let here : test n ≡ true =
    room-known c.clean_sample-clean.result (search rules) c.has_room.ensures c.peak_of-peak.ensures.value
    c.clean_sample-clean.ensures.value
    ∙ yes in
    c.loop-n.invariant
    ∙ all_left test n all below
    ∙ ap (λ (b : Bool). b && list_all test (range_with_len (n + 1) (all - (n + 1)))) here

pub returns-then-not-has_room : goal.returns-then-not-has_room
returns-then-not-has_room c =
    let n = c.loop-n.n in
    let all : ℕ = c.args.ms * 8 in
    let test : ℕ → Bool =
    λ n. has_room (peak_of c.args.setting.now) (clean_sample c.args.setting.now 0 c.args.sound.now n) in
    let below : n < all = omega (arith, c.loop-n-test.true, c.from-n-end.ensures) in
    let no : c.has_room.result ≡ false = search rules in
    let here : test n ≡ false =
    room-known c.clean_sample-clean.result (search rules) c.has_room.ensures c.peak_of-peak.ensures.value
    c.clean_sample-clean.ensures.value
    ∙ no in
    sym (c.loop-n.invariant ∙ all_fail test n all below here)
