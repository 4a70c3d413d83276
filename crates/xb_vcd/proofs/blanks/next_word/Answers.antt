use Rattle.std.proofs.Common.{◌≡◌, ◌∙◌, [], ℕ, ◌+◌, List, drop, subst, sym, arith}
use Rattle.std.specs.Prelude.{slice_range}
use Rattle.xb_vcd.specs.VcdTexts.{words_in}
use Rattle.xb_vcd.proofs.WordLemmas.{more_at_byte, none_at_blank}
use Rattle.xb_vcd.proofs.blanks.next_word.Goals as goal
use Rattle.xb_vcd.proofs.blanks.next_word.Goals.{then-is_blank+else-start-end, else-is_blank}

pub loop-end-preserved : goal.loop-end-preserved
loop-end-preserved c =
    let line : List ℕ = c.args.text.now in
    let end : ℕ = c.loop-end.end in
    let W : ℕ → Type 0 = λ start. words_in (slice_range line start (end + 1)) (drop (end + 1) line) ≡ words_in [] line in
    elim c.if-is_blank.branch [
      | then-is_blank+else-start-end w ↦ record {
        places = omega (arith, w.start-is);
        words = subst W (sym w.start-is)
            (none_at_blank line c.loop-end.start end (omega (arith, w.if-start-end.false, c.loop-end.invariant.places))
            c.loop-end-test.true (sym c.is_blank.ensures ∙ w.if-is_blank.true) c.loop-end.invariant.words);
      }
      | else-is_blank w ↦ record {
        places = omega (arith, w.start-is, c.loop-end.invariant.places);
        words = subst W (sym w.start-is)
            (more_at_byte line c.loop-end.start end c.loop-end.invariant.places c.loop-end-test.true
            (sym c.is_blank.ensures ∙ w.if-is_blank.false) c.loop-end.invariant.words);
      }
    ]
