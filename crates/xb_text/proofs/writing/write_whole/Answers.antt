use Rattle.std.proofs.Common.{◌≡◌, ◌≤◌, ◌+◌, ◌-◌, ℕ, List, ◌++◌, length, take, drop, sym, arith}
use Rattle.std.proofs.lemmas.List.{length-drop, take_rest}
use Rattle.std.proofs.Math.Seq.{take-add}
use Rattle.std.proofs.KnownBytes.{Appends-trans}
use Rattle.xb_text.proofs.writing.write_whole.Goals as goal

-- the beginning so far, and the part of the rest that was taken
beginnings : (at n : ℕ) (text : List ℕ) → at ≤ length text → n ≤ length (take (length text - at) (drop at text))
    → (at + n ≤ length text) × (take at text ++ take n (take (length text - at) (drop at text)) ≡ take (at + n) text)
beginnings at n text h b =
    let c : n ≤ length (drop at text) = rw (take_rest text at) at b in
    (omega (arith, length-drop at text), rw (take_rest text at) (sym (take-add at n text)))

pub loop-at-preserved : goal.loop-at-preserved
loop-at-preserved g c =
    let f = beginnings c.loop-at.at c.in-Ok.n c.args.text.now c.loop-at.invariant.0 c.in-Ok.ensures.bound in
    let t = Appends-trans _ _ _ _ _ c.loop-at.invariant.1 c.in-Ok.ensures.bytes in
    (f.0, rw f.1 at t)
