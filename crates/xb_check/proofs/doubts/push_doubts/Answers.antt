use Rattle.std.proofs.Common.{◌≡◌, ◌∙◌, List, Option, Bool, map, ap, subst}
use Rattle.std.specs.Prelude.{OnOk}
use Rattle.std.specs.List.{flat_map}
use Rattle.xb_model.specs.Rows.{LoopRow}
use Rattle.xb_doubts.specs.declared.units.Unit.{Unit}
use Rattle.xb_doubts.specs.Lines.{OfLines, rows_of_others, straight_rows, told_by, told_in}
use Rattle.xb_doubts.specs.Ringing.{is_ringing}
use Rattle.xb_doubts.specs.Units.{wrong_unit}
use Rattle.xb_findings.specs.Findings.{Found}
use Rattle.xb_findings.specs.Kept.{kept_line_of}
use Rattle.xb_findings.specs.Tallies.{tallied, with_all}
use Rattle.xb_check.specs.Doubts.{doubt_at, doubts_in}
use Rattle.xb_check.proofs.doubts.push_doubts.Goals as goal

pub returns : goal.returns
returns c =
    let contents = c.args.contents.now in
    let limits = contents.table.limits in
    let rows = contents.rows in
    let straight = straight_rows limits rows in
    let kept = map kept_line_of c.args.kept.now in
    let rings = c.in_ok-whole.whole.is_ringing in
    let told = told_by c.in_ok-lines.lines in
    let told-is : told ≡ told_in limits rows =
    c.in_ok-lines.ensures ∙ ap (λ some. told_in some c.rows-rows.result.now) c.limits-limits.ensures
    ∙ ap (λ some. told_in limits some) c.rows-rows.ensures.all in
    let straight-is : c.in_ok-straight.straight.items ≡ straight =
    c.in_ok-straight.ensures.kept ∙ ap (λ (some : OfLines). rows_of_others some c.rows-rows.result.now) told-is
    ∙ ap (λ some. rows_of_others (told_in limits rows) some) c.rows-rows.ensures.all in
    let given-is : c.deref.result.now ≡ straight = c.deref.ensures.value ∙ straight-is in
    let unit-is : c.in_ok-whole.whole.unit ≡ wrong_unit limits straight =
    c.in_ok-whole.ensures.unit ∙ ap (λ some. wrong_unit some c.deref.result.now) c.limits-limits.ensures
    ∙ ap (λ (some : List LoopRow). wrong_unit limits some) given-is in
    let rings-is : rings ≡ is_ringing limits straight =
    c.in_ok-whole.ensures.ringing ∙ ap (λ some. is_ringing some c.deref.result.now) c.limits-limits.ensures
    ∙ ap (λ (some : List LoopRow). is_ringing limits some) given-is in
    let doubts-are : flat_map (doubt_at c.in_ok-whole.whole.unit rings told) kept ≡ doubts_in contents kept =
    ap (λ (other : Option Unit). flat_map (doubt_at other rings told) kept) unit-is
    ∙ ap (λ (some : Bool). flat_map (doubt_at (wrong_unit limits straight) some told) kept) rings-is
    ∙ ap (λ (some : OfLines). flat_map (doubt_at (wrong_unit limits straight) (is_ringing limits straight) some) kept) told-is in
    subst (λ (some : List Found). OnOk c.push_each.result (tallied c.push_each.new.tally ≡ with_all (tallied c.args.tally.now) some))
    doubts-are c.push_each.ensures
