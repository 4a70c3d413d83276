use Rattle.xb_findings.proofs.SeparatedRecords.{by_commas, by_none, by_semicolons, by_tabs}
use Rattle.xb_findings.proofs.separators.separated_record.Goals as goal

pub returns-then-is_whole : goal.returns-then-is_whole
returns-then-is_whole c =
    let read = by_commas c.args.line.now c.record_of_line-commas.result c.record_of_line-commas.ensures c.if-is_whole.ensures in
    record { separator = read.parted; said = read.taken }

pub returns-then-is_whole-2 : goal.returns-then-is_whole-2
returns-then-is_whole-2 c =
    let read = by_semicolons c.args.line.now c.record_of_line-commas.result c.in_ok-semicolons.semicolons
    c.record_of_line-commas.ensures c.if-is_whole.ensures c.in_ok-semicolons.ensures c.if-is_whole-2.ensures in
    record { separator = read.parted; said = read.taken }

pub returns-then-is_whole-3 : goal.returns-then-is_whole-3
returns-then-is_whole-3 c =
    let read = by_tabs c.args.line.now c.record_of_line-commas.result c.in_ok-semicolons.semicolons c.in_ok-tabs.tabs
    c.record_of_line-commas.ensures c.if-is_whole.ensures c.in_ok-semicolons.ensures c.if-is_whole-2.ensures
    c.in_ok-tabs.ensures c.if-is_whole-3.ensures in
    record { separator = read.parted; said = read.taken }

pub returns : goal.returns
returns c =
    let read = by_none c.args.line.now c.record_of_line-commas.result c.in_ok-semicolons.semicolons c.in_ok-tabs.tabs
    c.record_of_line-commas.ensures c.if-is_whole.ensures c.in_ok-semicolons.ensures c.if-is_whole-2.ensures
    c.in_ok-tabs.ensures c.if-is_whole-3.ensures in
    record { separator = read.parted; said = read.taken }
