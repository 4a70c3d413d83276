use Rattle.std.proofs.Common.{◌≡◌, ℕ, List, [], ◌++◌, Bor, true, false, cond, Option, Some, None, ap, subst, sym, ◌∙◌, rules, true≢false}
use Rattle.std.specs.Prelude.{option_map, ◌&&◌}
use Rattle.xb_text.specs.Pieces.{cut_at}
use Rattle.xb_recording.specs.Beginnings.{IsTold, all_passed_over, format_of_line, is_passed_over, last_told, told_by_lines}
use Rattle.xb_recording.specs.Says.{lines_in, plain_line, plain_lines, text_lines}
use Rattle.xb_recording.proofs.ToldLemmas.{cut_less, passed_last, passed_next, told_last, told_next, told_so}
use Rattle.xb_recording.proofs.beginning.told_by_lines.Goals as goal

-- what is found is the cut of a text
abbrev IsCut : List ℕ → Option (Bor (List ℕ) × Bor (List ℕ)) → Type 0
IsCut text found = option_map (λ parts. (parts.0.now, parts.1.now)) found ≡ cut_at 10 text

pub returns-then-not-is_passed_over-clause-told : goal.returns-then-not-is_passed_over-clause-told
returns-then-not-is_passed_over-clause-told c = λ later end.
    let rest : List ℕ = c.loop-line.rest.now in
    let first = c.loop-line.is_first in
    let line : List ℕ = c.in-Some.line.now in
    let after : List ℕ = c.in-Some.later.now in
    let cut : Some (line, after) ≡ cut_at 10 rest = subst (IsCut rest) c.in-Some.is c.cut_at.ensures in
    let read : c.without_mark-line.result.now ≡ plain_line first line = c.without_mark-line.ensures in
    let not_passed : c.is_passed_over.result ≡ false = search rules in
    let passed : is_passed_over (plain_line first line) ≡ false =
    ap is_passed_over (sym read) ∙ sym c.is_passed_over.ensures ∙ not_passed in
    let T : List ℕ → Type 0 = λ l. IsTold c.told_by_line.result (format_of_line l) in
    told_so c.told_by_line.result (plain_line first line) (told_by_lines (text_lines (c.args.text.now ++ later)))
    (told_by_lines (plain_lines false (lines_in [] (after ++ later)))) (is_passed_over (plain_line first line)) passed
    (c.loop-line.invariant.told later ∙ told_next rest line after later first cut) (subst T read c.told_by_line.ensures.told)

pub returns-then-not-is_passed_over-clause-open : goal.returns-then-not-is_passed_over-clause-open
returns-then-not-is_passed_over-clause-open c = λ going all.
    let rest : List ℕ = c.loop-line.rest.now in
    let first = c.loop-line.is_first in
    let line : List ℕ = c.in-Some.line.now in
    let after : List ℕ = c.in-Some.later.now in
    let cut : Some (line, after) ≡ cut_at 10 rest = subst (IsCut rest) c.in-Some.is c.cut_at.ensures in
    let not_passed : c.is_passed_over.result ≡ false = search rules in
    let passed : is_passed_over (plain_line first line) ≡ false =
    ap is_passed_over (sym c.without_mark-line.ensures) ∙ sym c.is_passed_over.ensures ∙ not_passed in
    let none : all_passed_over (text_lines c.args.text.now) ≡ false =
    c.loop-line.invariant.passed ∙ passed_next rest line after first cut
    ∙ ap (λ b. b && all_passed_over (plain_lines false (lines_in [] after))) passed in
    absurd (true≢false (sym all ∙ none))

pub loop-line-smaller : goal.loop-line-smaller
loop-line-smaller c =
    let rest : List ℕ = c.loop-line.rest.now in
    cut_less rest c.in-Some.line.now c.in-Some.later.now (subst (IsCut rest) c.in-Some.is c.cut_at.ensures)

pub loop-line-preserved : goal.loop-line-preserved
loop-line-preserved c =
    let rest : List ℕ = c.loop-line.rest.now in
    let first = c.loop-line.is_first in
    let line : List ℕ = c.in-Some.line.now in
    let after : List ℕ = c.in-Some.later.now in
    let cut : Some (line, after) ≡ cut_at 10 rest = subst (IsCut rest) c.in-Some.is c.cut_at.ensures in
    let is_passed : c.is_passed_over.result ≡ true = search rules in
    let passed : is_passed_over (plain_line first line) ≡ true =
    ap is_passed_over (sym c.without_mark-line.ensures) ∙ sym c.is_passed_over.ensures ∙ is_passed in
    record {
      told = λ later. c.loop-line.invariant.told later ∙ told_next rest line after later first cut
          ∙ ap (λ b. cond b (told_by_lines (plain_lines false (lines_in [] (after ++ later))))
          (format_of_line (plain_line first line))) passed;
      passed = c.loop-line.invariant.passed ∙ passed_next rest line after first cut
          ∙ ap (λ b. b && all_passed_over (plain_lines false (lines_in [] after))) passed;
    }

pub returns-clause-told : goal.returns-clause-told
returns-clause-told c = λ later end.
    let rest : List ℕ = c.loop-line.rest.now in
    let first = c.loop-line.is_first in
    let none : None ≡ cut_at 10 rest = subst (IsCut rest) c.in_default.is c.cut_at.ensures in
    let T : List ℕ → Type 0 = λ l. IsTold c.told_by_last.result (last_told l) in
    told_last c.told_by_last.result c.args.text.now rest later first c.args.is_end c.loop-line.invariant.told none end
    (λ e. subst T c.without_mark.ensures (c.told_by_last.ensures.told e)) c.told_by_last.ensures.open

pub returns-clause-yet : goal.returns-clause-yet
returns-clause-yet c = λ more.
    let rest : List ℕ = c.loop-line.rest.now in
    c.loop-line.invariant.passed ∙ passed_last rest c.loop-line.is_first (subst (IsCut rest) c.in_default.is c.cut_at.ensures)
