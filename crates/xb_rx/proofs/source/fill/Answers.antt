use Rattle.std.proofs.Common.{◌≡◌, ◌∙◌, ◌≤◌, ◌+◌, ◌-◌, ℕ, List, ◌++◌, length, take, ap, sym, subst, arith}
use Rattle.std.specs.Io.KnownBytes.{Consumes}
use Rattle.std.proofs.KnownBytes.{Consumes-trans}
use Rattle.std.proofs.lemmas.List.{length-drop, length-take-le, take-append-le, take_rest}
use Rattle.std.proofs.Math.Seq.{take-append-add}
use borrow.Rule.Slice.PartMut.{mid_of, post_of, put_mid, same_len_mid}
use Rattle.xb_rx.proofs.source.fill.Goals as goal

-- what was read stands after what was read before
both : (at n : ℕ) (buffer part : List ℕ) → at ≤ length buffer
    → length part ≡ length (mid_of at (length buffer - at) buffer) → n ≤ length part
    → (at + n ≤ length (put_mid at (length buffer - at) buffer part))
    × (take (at + n) (put_mid at (length buffer - at) buffer part) ≡ take at buffer ++ take n part)
both at n buffer part within size enough =
    let whole = same_len_mid at (length buffer - at) buffer part size in
    let rest : length part ≡ length buffer - at = size ∙ ap length (take_rest buffer at) ∙ length-drop at buffer in (
      omega (arith, whole, rest, within, enough),
      ap (λ (k : ℕ). take (k + n) (put_mid at (length buffer - at) buffer part)) (sym (length-take-le at buffer within))
          ∙ take-append-add (take at buffer) (part ++ post_of at (length buffer - at) buffer) n
          ∙ ap (λ xs. take at buffer ++ xs) (take-append-le n part (post_of at (length buffer - at) buffer) enough),
    )

pub loop-at-preserved : goal.loop-at-preserved
loop-at-preserved g c =
    let f = both c.loop-at.at c.in-Ok.n c.loop-at.buffer c.read.new.buf c.loop-at.invariant.within c.read.auto.buf
    (omega (arith, c.in-Ok.ensures.bound, c.read.auto.buf)) in record {
      within = f.0;
      bytes = subst (λ (xs : List ℕ). Consumes (g.R.Read.remaining c.args.reader.now) (g.R.Read.remaining c.read.new.self) xs)
          (sym f.1) (Consumes-trans _ _ _ _ _ c.loop-at.invariant.bytes c.in-Ok.ensures.bytes.0);
    }
