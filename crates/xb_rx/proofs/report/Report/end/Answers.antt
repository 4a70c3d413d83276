use Rattle.std.proofs.Common.{sym, subst}
use Rattle.xb_measured.specs.Receivers.{listed}
use Rattle.xb_rx.specs.declared.report.Report.{Report}
use Rattle.xb_rx.specs.Objects.{objected}
use Rattle.xb_rx.specs.Timed.{timing_by}
use Rattle.xb_rx.specs.Pages.{Ends}
use Rattle.xb_rx.specs.Reports.{report_rest, reported, told_rest}
use Rattle.xb_rx.specs.Styled.{EndsBy}
use Rattle.xb_rx.proofs.PartSteps.{plain-styles}
use Rattle.xb_rx.proofs.Listings.{listing-ended, nothing-ended, page-ends, page-late}
use Rattle.xb_rx.proofs.ObjectSteps.{objects-ended}
use Rattle.xb_rx.proofs.report.Report.end.Goals as goal

pub returns-in-Page-clause-page : goal.returns-in-Page-clause-page
returns-in-Page-clause-page g c = λ clock tells.
    subst (λ (r : Report). EndsBy (report_rest (reported (timing_by c.args.since clock) r) (listed c.args.key)) c.reported_page.result
    (g.W.Write.contents c.args.out.now) (g.W.Write.contents c.end.new.out)) (sym c.in-Page.is)
    (plain-styles, page-ends c.end.result c.reported_page.result c.reported_page.ensures _ _ _ c.end.ensures.page)

pub returns-in-Page-clause-told : goal.returns-in-Page-clause-told
returns-in-Page-clause-told g c = λ timing.
    subst (λ (r : Report). Ends (told_rest (reported timing r) (listed c.args.key)) c.reported_page.result
    (g.E.Write.contents c.args.err.now) (g.E.Write.contents c.end.new.err)) (sym c.in-Page.is)
    (page-ends c.end.result c.reported_page.result c.reported_page.ensures _ _ _ c.end.ensures.told)

pub returns-in-Page-clause-late : goal.returns-in-Page-clause-late
returns-in-Page-clause-late g c = page-late c.end.result c.reported_page.result c.reported_page.ensures c.args.since

pub returns-in-Keys-clause-page : goal.returns-in-Keys-clause-page
returns-in-Keys-clause-page g c = λ clock tells.
    subst (λ (r : Report). EndsBy (report_rest (reported (timing_by c.args.since clock) r) (listed c.args.key)) c.reported_page-in-Keys.result
    (g.W.Write.contents c.args.out.now) (g.W.Write.contents c.take.new.out)) (sym c.in-Keys.is) (
      plain-styles,
      page-ends c.take.result c.reported_page-in-Keys.result c.reported_page-in-Keys.ensures _ _ _
          (listing-ended c.in-Keys.listing c.take.new.self c.args.key c.take.result _ _ c.take.ensures),
    )

pub returns-in-Keys-clause-told : goal.returns-in-Keys-clause-told
returns-in-Keys-clause-told g c = λ timing.
    subst (λ (r : Report). Ends (told_rest (reported timing r) (listed c.args.key)) c.reported_page-in-Keys.result
    (g.E.Write.contents c.args.err.now) (g.E.Write.contents c.args.err.now)) (sym c.in-Keys.is)
    (nothing-ended c.reported_page-in-Keys.result (g.E.Write.contents c.args.err.now))

pub returns-in-Keys-clause-late : goal.returns-in-Keys-clause-late
returns-in-Keys-clause-late g c =
    page-late c.take.result c.reported_page-in-Keys.result c.reported_page-in-Keys.ensures c.args.since

pub returns-in-Objects-clause-page : goal.returns-in-Objects-clause-page
returns-in-Objects-clause-page g c = λ clock tells.
    subst (λ (r : Report). EndsBy (report_rest (reported (timing_by c.args.since clock) r) (listed c.args.key)) c.take-in-Objects.result
    (g.W.Write.contents c.args.out.now) (g.W.Write.contents c.take-in-Objects.new.out)) (sym c.in-Objects.is) (
      plain-styles,
      objects-ended (timing_by c.args.since clock) (objected c.in-Objects.objects) (objected c.take-in-Objects.new.self) c.args.key
          c.take-in-Objects.result _ _ (c.take-in-Objects.ensures.text clock tells),
    )

pub returns-in-Objects-clause-told : goal.returns-in-Objects-clause-told
returns-in-Objects-clause-told g c = λ timing.
    subst (λ (r : Report). Ends (told_rest (reported timing r) (listed c.args.key)) c.take-in-Objects.result
    (g.E.Write.contents c.args.err.now) (g.E.Write.contents c.args.err.now)) (sym c.in-Objects.is)
    (nothing-ended c.take-in-Objects.result (g.E.Write.contents c.args.err.now))

pub returns-in-Parts-clause-page : goal.returns-in-Parts-clause-page
returns-in-Parts-clause-page g c = λ clock tells.
    subst (λ (r : Report). EndsBy (report_rest (reported (timing_by c.args.since clock) r) (listed c.args.key)) c.reported_page-in-Parts.result
    (g.W.Write.contents c.args.out.now) (g.W.Write.contents c.end-in-Parts.new.out)) (sym c.in-Parts.is) (
      c.end-in-Parts.ensures.0,
      page-ends c.end-in-Parts.result c.reported_page-in-Parts.result c.reported_page-in-Parts.ensures _ _ _ c.end-in-Parts.ensures.1,
    )

pub returns-in-Parts-clause-told : goal.returns-in-Parts-clause-told
returns-in-Parts-clause-told g c = λ timing.
    subst (λ (r : Report). Ends (told_rest (reported timing r) (listed c.args.key)) c.reported_page-in-Parts.result
    (g.E.Write.contents c.args.err.now) (g.E.Write.contents c.args.err.now)) (sym c.in-Parts.is)
    (nothing-ended c.reported_page-in-Parts.result (g.E.Write.contents c.args.err.now))

pub returns-in-Parts-clause-late : goal.returns-in-Parts-clause-late
returns-in-Parts-clause-late g c =
    page-late c.end-in-Parts.result c.reported_page-in-Parts.result c.reported_page-in-Parts.ensures c.args.since
