use Rattle.std.proofs.Common.{◌≡◌, ◌++◌, ◌∙◌, ℕ, List, ap, ap₂, map, string_bytes}
use Rattle.xb_heard.specs.Attempts.{attempt_in}
use Rattle.xb_svg.specs.Drawings.{drawing_text, says as said}
use Rattle.xb_picture.specs.Drawing.{many, skipped}
use Rattle.xb_picture.specs.Pictures.{picture_words}
use Rattle.xb_picture.proofs.drawing.draw_attempts.Goals as goal

pub returns : goal.returns
returns c =
    let words = λ (b k : ℕ). picture_words c.args.limits c.args.line b k (map attempt_in c.args.attempts.now) in
    let drawn = c.in_ok-push_drawing.ensures in
    let heard : said c.deref.result.now ≡ words (skipped c.args.attempt) (many c.args.attempt) =
    ap said c.deref.ensures.value ∙ c.in_ok-sheet.ensures ∙ ap₂ words c.skipped.ensures c.many.ensures in
    record {
      looks = drawn.looks;
      is = drawn.put
          ∙ ap (λ (t : List ℕ). t ++ drawing_text drawn.looks (said c.deref.result.now)) c.new-out.ensures.bytes
          ∙ ap (drawing_text drawn.looks) heard;
    }
