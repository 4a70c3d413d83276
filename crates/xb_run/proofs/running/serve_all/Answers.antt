use Rattle.std.proofs.Common.{IfSome, vec_len, subst}
use Rattle.xb_model.specs.Lines.{row_line, on_line_of}
use Rattle.xb_pulse.specs.Machine.{machine as pulse_machine}
use Rattle.xb_register.specs.Machine.{machine as register_machine}
use Rattle.xb_routes.specs.Machine.{machine as translate_machine}
use Rattle.xb_run.specs.Faults.{IsPostOf}
use Rattle.xb_run.specs.Promises.{FeedPromised, StationPromised, DealPromised, GatherPromised, TapePromised, ends_entry}
use Rattle.xb_run.proofs.Joins.{joined}
use Rattle.xb_run.proofs.running.serve_all.Goals as goal

-- the post whose start was refused is one of the chain
pub returns-in-Some-clause-refused : goal.returns-in-Some-clause-refused
returns-in-Some-clause-refused g c =
    let n = vec_len c.args.chain.senders in
    let tape = c.start-tape.ensures.refused n tt tt in
    let gather = c.start-gather.ensures.refused n tt tape in
    let senders = c.start_senders-senders.ensures.refused gather in
    let deal = c.start-deal.ensures.refused n tt senders in
    let translate = c.start-translate.ensures.refused n tt deal in
    let register = c.start-register.ensures.refused n tt translate in
    let pulse = c.start-pulse.ensures.refused n tt register in
    let feed = c.start-feed.ensures.refused n tt pulse in
    subst (λ refused. IfSome refused (IsPostOf n)) c.in-Some.is feed

-- what each post gives back is what was promised of it
pub returns-in-None-clause-promised : goal.returns-in-None-clause-promised
returns-in-None-clause-promised g c =
    let posts = c.args.chain in
    record {
      feed = joined FeedPromised posts.feed c.start-feed.result c.join.result c.join.ensures.kept c.join.ensures.stopped c.start-feed.ensures.started;
      pulse = joined (StationPromised row_line pulse_machine) posts.pulse c.start-pulse.result c.join-2.result c.join-2.ensures.kept c.join-2.ensures.stopped c.start-pulse.ensures.started;
      register = joined (StationPromised on_line_of register_machine) posts.register c.start-register.result c.join-3.result c.join-3.ensures.kept c.join-3.ensures.stopped c.start-register.ensures.started;
      translate = joined (StationPromised on_line_of (λ table. translate_machine table.routes)) posts.translate c.start-translate.result c.join-4.result c.join-4.ensures.kept c.join-4.ensures.stopped c.start-translate.ensures.started;
      deal = joined DealPromised posts.deal c.start-deal.result c.join-5.result c.join-5.ensures.kept c.join-5.ensures.stopped c.start-deal.ensures.started;
      senders = c.join_senders.ensures posts.senders.items c.start_senders-senders.ensures.started;
      gather = joined (GatherPromised ends_entry) posts.gather c.start-gather.result c.join-6.result c.join-6.ensures.kept c.join-6.ensures.stopped c.start-gather.ensures.started;
      tape = joined TapePromised posts.tape c.start-tape.result c.join-7.result c.join-7.ensures.kept c.join-7.ensures.stopped c.start-tape.ensures.started;
    }
