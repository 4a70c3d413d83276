use Rattle.std.proofs.Common.{◌∙◌, ap, sym, arith}
use Rattle.std.specs.Prelude.{option_copied}
use Rattle.std.proofs.lemmas.Bool.{cond-false}
use Rattle.xb_text.specs.Pieces.{pieces_left}
use Rattle.xb_signal.specs.Texts.{after, segments_of_words, words_from, words_of}
use Rattle.xb_signal.proofs.TakenWords.{none-left, total-pieces}
use Rattle.xb_signal.proofs.text.segments_of_text.Goals as goal

pub loop-left-init : goal.loop-left-init
loop-left-init c = record {
  read =
      ap (λ segments. after segments (segments_of_words c.args.cadence c.args.setting.now (words_of c.args.text.now)))
      (sym c.in_ok-segments.ensures);
  bytes = omega (arith, total-pieces c.args.text.now);
  words = omega arith;
}

pub returns-clause-segments : goal.returns-clause-segments
returns-clause-segments c =
    let segments = c.loop-left.segments.items in
    cond-false _ _ _ (sym c.is_blank.ensures ∙ c.if-is_blank.false)
    ∙ c.loop-left.invariant.read
    ∙ ap (λ left. after segments
    (segments_of_words c.args.cadence c.args.setting.now
    (words_from c.loop-left.place (pieces_left 32 (option_copied left)))))
    c.in_default.is
    ∙ none-left c.args.cadence c.args.setting.now c.loop-left.place segments
