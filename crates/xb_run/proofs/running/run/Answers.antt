use Rattle.std.proofs.Common.{◌≡◌, ◌≤◌, None, vec_len, refl, sym, subst, rules, arith}
use Rattle.std.proofs.lemmas.Result.{IfOk-weaker, IfErr-weaker}
use Rattle.xb_closes.specs.Fed.{fed}
use Rattle.xb_images.proofs.LineTapes.{marks_at-serial, entries-serial, tapes-serial}
use Rattle.xb_branches.specs.declared.branches.TheConstants.{MOST_BRANCHES}
use Rattle.xb_run.specs.Faults.{IsPostOf}
use Rattle.xb_run.specs.Started.{HasRoom}
use Rattle.xb_run.proofs.Chains.{rejoined, senders_back, fed_whole, fault_of, have_served}
use Rattle.xb_run.proofs.running.run.Goals as goal

pub serve_posts-requires : goal.serve_posts-requires
serve_posts-requires g c =
    let chain = c.in_ok-chain.chain in
    let many : vec_len chain.senders ≡ c.args.senders = omega (arith, c.in_ok-chain.ensures.senders_are, chain.senders.ok.0) in
    let few : vec_len chain.senders ≤ MOST_BRANCHES = omega (arith, many, c.requires.most_senders) in
    let room = subst (λ n. HasRoom n c.in_ok-room.room) (sym many) c.in_ok-room.ensures in
    search (rules, few, room)

pub finish-requires : goal.finish-requires
finish-requires g c = record {
  rejoined = rejoined _ _ _ _ _ _ c.in_ok-chain.ensures c.in-Ok.ensures.promised;
  few = omega (arith, senders_back _ _ _ _ _ _ c.in_ok-chain.ensures c.in-Ok.ensures.promised, c.requires.most_senders, c.in-Ok.done.senders.ok.0);
}

-- the tapes are those of the four images of the fed rows
pub returns-in-Ok : goal.returns-in-Ok
returns-in-Ok g c =
    let t = c.args.table.now in
    let rows = (g.S.RowSource.rest c.args.source).rows in
    let chain = c.in_ok-chain.ensures in
    let promised = c.in-Ok.ensures.promised in
    let served = have_served _ _ _ _ _ _ chain promised in
    let lawful = chain.laws.limits in
    let keyed = c.finish.ensures.tapes in
    record {
      tapes = IfOk-weaker c.finish.result _ _
          (λ tapes h. tapes-serial t.plan t.limits t.routes lawful tapes _ rows (h t.plan t.limits t.routes (fed rows None) served) refl) keyed;
      marks = IfOk-weaker c.finish.result _ _
          (λ tapes h. marks_at-serial t.plan t.limits t.routes lawful tapes _ rows (h t.plan t.limits t.routes (fed rows None) served) refl) keyed;
      entries = IfOk-weaker c.finish.result _ _
          (λ tapes h. entries-serial t.plan t.limits t.routes lawful tapes _ rows (h t.plan t.limits t.routes (fed rows None) served) refl) keyed;
      end = IfOk-weaker c.finish.result _ _ (λ tapes h. (fed_whole _ _ _ _ _ _ chain promised h.0.feed h.1).1) c.finish.ensures.served;
      fault = IfErr-weaker c.finish.result _ _ (fault_of _ _ _ _ _ _ chain promised) c.finish.ensures.fault;
    }

pub returns-in-Err-clause-fault : goal.returns-in-Err-clause-fault
returns-in-Err-clause-fault g c =
    let chain = c.in_ok-chain.chain in
    let many : vec_len chain.senders ≡ c.args.senders = omega (arith, c.in_ok-chain.ensures.senders_are, chain.senders.ok.0) in
    subst (λ n. IsPostOf n c.in-Err.post) many c.in-Err.ensures.refused
