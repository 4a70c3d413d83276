use Rattle.std.proofs.Common.{◌≡◌, ◌≤◌, ℕ, List, ◌++◌, Bool, None, Some, ap, cond, codes, false, nat_eq, length, sym, subst, ◌∙◌, rules, true, true≢false}
use Rattle.std.specs.List.{starts_with}
use Rattle.xb_recording.specs.declared.format.Format.TheVariants as formats
use Rattle.xb_recording.specs.Beginnings.{IsTold, is_archive, told_by_lines}
use Rattle.xb_recording.specs.Says.{text_lines}
use Rattle.xb_recording.proofs.ToldWithin.{begins_same}
use Rattle.xb_recording.proofs.beginning.told_format.Goals as goal
use Rattle.xb_recording.proofs.beginning.told_format.Goals.{else-beginning-lt4-via-then-beginning-lt4+else-not-is_end, else-beginning-lt4-via-else-beginning-lt4}

pub returns-then-is_archive-clause-told : goal.returns-then-is_archive-clause-told
returns-then-is_archive-clause-told c = λ later end.
    let text : List ℕ = c.args.beginning.now in
    let plain : starts_with nat_eq text (codes "RIFF") ≡ false = search rules in
    let archive : is_archive text ≡ true = sym c.is_archive.ensures ∙ c.if-is_archive.true in
    let four : c.args.is_end ≡ false → 4 ≤ length text =
    elim c.else-beginning-lt4.branch [
      | else-beginning-lt4-via-then-beginning-lt4+else-not-is_end w ↦ λ going. absurd (true≢false (sym w.if-not-is_end.false ∙ going))
      | else-beginning-lt4-via-else-beginning-lt4 w ↦ λ going. w.if-beginning-lt4.false
    ] in
    ap (λ is_wav. cond is_wav (Some formats.Wav) (cond (is_archive (text ++ later)) None (told_by_lines (text_lines (text ++ later)))))
    (begins_same 82 73 70 70 text later c.args.is_end end four ∙ plain)
    ∙ ap (λ a. cond a None (told_by_lines (text_lines (text ++ later))))
    (begins_same 80 75 3 4 text later c.args.is_end end four ∙ archive)

pub returns-clause-told : goal.returns-clause-told
returns-clause-told c = λ later end.
    let text : List ℕ = c.args.beginning.now in
    let plain : starts_with nat_eq text (codes "RIFF") ≡ false = search rules in
    let single : is_archive text ≡ false = sym c.is_archive.ensures ∙ c.if-is_archive.false in
    let four : c.args.is_end ≡ false → 4 ≤ length text =
    elim c.else-beginning-lt4.branch [
      | else-beginning-lt4-via-then-beginning-lt4+else-not-is_end w ↦ λ going. absurd (true≢false (sym w.if-not-is_end.false ∙ going))
      | else-beginning-lt4-via-else-beginning-lt4 w ↦ λ going. w.if-beginning-lt4.false
    ] in
    let no_wav : starts_with nat_eq (text ++ later) (codes "RIFF") ≡ false = begins_same 82 73 70 70 text later c.args.is_end end four ∙ plain in
    let no_archive : is_archive (text ++ later) ≡ false = begins_same 80 75 3 4 text later c.args.is_end end four ∙ single in
    let T : Bool → Type 0 =
    λ is_wav. IsTold c.told_by_lines.result (cond is_wav (Some formats.Wav) (cond (is_archive (text ++ later)) None (told_by_lines (text_lines (text ++ later))))) in
    let U : Bool → Type 0 =
    λ archive. IsTold c.told_by_lines.result (cond archive None (told_by_lines (text_lines (text ++ later)))) in
    subst T (sym no_wav) (subst U (sym no_archive) (c.told_by_lines.ensures.told later end))
