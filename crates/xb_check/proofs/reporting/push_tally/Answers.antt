use Rattle.std.proofs.Common.{◌≡◌, ◌∙◌, ◌++◌, ℕ, List, map, ap, append_assoc, Result, Ok, Err}
use Rattle.std.specs.Prelude.{OnOk}
use Rattle.std.specs.List.{flat_map}
use Rattle.xb_findings.specs.Findings.{found_of}
use Rattle.xb_check.specs.Reports.{found_text}
use Rattle.xb_findings.specs.Tallies.{tallied}
use Rattle.xb_check.specs.TallyTexts.{more_of, text_of_tally}
use Rattle.xb_findings.specs.Told.{each_kind}
use Rattle.xb_check.proofs.reporting.push_tally.Goals as goal

on_ok : {T E : Type 0} (result : Result T E) (P Q : Type 0) → (P → Q) → OnOk result P → OnOk result Q
on_ok (Ok x) P Q f p = f p
on_ok (Err e) P Q f p = tt

-- text that is put after lines, which are put after other text
joined : (before lines more after all : List ℕ) → after ≡ before ++ lines → all ≡ after ++ more → all ≡ before ++ (lines ++ more)
joined before lines more after all put put' =
    put' ∙ ap (λ (text : List ℕ). text ++ more) put ∙ append_assoc before lines more

pub returns : goal.returns
returns c =
    let name = c.args.name.now in
    let tally = c.args.tally.now in
    let before = c.args.out.now.items in
    let after = c.push_lines.new.out.items in
    let all = c.push_each_more.new.out.items in
    let lines = flat_map (found_text name) (map found_of tally.told.items) in
    let more = flat_map (more_of name (tallied tally)) each_kind in
    let put : after ≡ before ++ lines = c.in_ok-push_lines.ensures
    ∙ ap (λ told. before ++ flat_map (found_text name) (map found_of told)) c.deref.ensures.value in
    on_ok c.push_each_more.result (all ≡ after ++ more) (all ≡ before ++ text_of_tally name (tallied tally))
    (joined before lines more after all put) c.push_each_more.ensures
