use Rattle.std.proofs.Common.{◌≡◌, ◌∙◌, ◌∷◌, ◌+◌, ◌≤◌, [], ℕ, Bool, ap, arith, length, sym, subst}
use Rattle.std.specs.Prelude.{◌&&◌, if◌then◌else◌, nat_le, nat_lt}
use Rattle.xb_rows.specs.WrittenRows.{record_text}
use Rattle.xb_parts.specs.PartDecks.{Gets, only_for, range_at, records_of_part}
use Rattle.xb_parts.proofs.WrittenParts.{Gets-last, Gets-next, Gets-nothing, only_before, records_of_one, records_past}
use Rattle.xb_parts.proofs.writing.write_to_parts.Goals.{then-has+in_ok-write, else-has}
use Rattle.xb_parts.proofs.writing.write_to_parts.Goals as goal

pub loop-part-preserved : goal.loop-part-preserved
loop-part-preserved g c =
    let ranges = c.args.ranges.now in
    let row = c.args.row in
    let part : ℕ = c.loop-part.part in
    let old = g.D.PartDecks.contents c.args.decks.now in
    let mid = g.D.PartDecks.contents c.loop-part.decks in
    let bytes = records_of_part ranges (row ∷ []) in
    let has : c.has.result ≡ (nat_le (range_at ranges part).first row.line && nat_lt row.line (range_at ranges part).end)
    = c.has.ensures
    ∙ ap (λ (l : ℕ). nat_le (range_at ranges part).first l && nat_lt l (range_at ranges part).end) c.line.ensures in
    let one = records_of_one ranges row part c.has.result has in
    elim c.if-has.branch [
      | then-has+in_ok-write w ↦
          let is = sym (one ∙ ap (λ (b : Bool). if b then record_text row else []) w.if-has.true) in
          let text = w.as_bytes.ensures.value ∙ w.as_str.ensures.value ∙ c.record_of-record.ensures.text in
          subst (λ d. Gets (only_before (part + 1) bytes) old (g.D.PartDecks.contents d)) (sym w.decks-is)
          (Gets-next bytes (record_text row) part old mid (g.D.PartDecks.contents w.write.new.self) is
          c.loop-part.invariant (subst (λ b. Gets (only_for part b) mid (g.D.PartDecks.contents w.write.new.self)) text w.in_ok-write.ensures))
      | else-has w ↦
          let is = sym (one ∙ ap (λ (b : Bool). if b then record_text row else []) w.if-has.false) in
          subst (λ d. Gets (only_before (part + 1) bytes) old (g.D.PartDecks.contents d)) (sym w.decks-is)
          (Gets-next bytes [] part old mid mid is c.loop-part.invariant (Gets-nothing part mid))
    ]

pub returns : goal.returns
returns g c =
    let ranges = c.args.ranges.now in
    let bytes = records_of_part ranges (c.args.row ∷ []) in
    let past : length ranges ≤ c.loop-part.part = omega (arith, c.loop-part-test.false) in
    Gets-last bytes c.loop-part.part (g.D.PartDecks.contents c.args.decks.now) (g.D.PartDecks.contents c.loop-part.decks)
    (λ i h. records_past ranges c.args.row i (omega (arith, past, h))) c.loop-part.invariant
