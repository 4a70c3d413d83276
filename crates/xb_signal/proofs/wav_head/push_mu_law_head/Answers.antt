use Rattle.std.proofs.Common.{ℕ, List, ◌++◌, ◌+◌, codes}
use Rattle.std.proofs.lemmas.Result.{on_ok_weaker}
use Rattle.xb_sound.specs.Wavs.{four_bytes}
use Rattle.xb_signal.specs.Forms.{fact_chunk, mu_law_format}
use Rattle.xb_signal.proofs.Put.{then}
use Rattle.xb_signal.proofs.wav_head.push_mu_law_head.Goals as goal

pub returns : goal.returns
returns c =
    let old : List ℕ = c.args.out.now.items in
    let x1 : List ℕ = c.extend_from_slice.new.self.items in
    let x2 : List ℕ = c.push_long.new.out.items in
    let x3 : List ℕ = c.extend_from_slice-2.new.self.items in
    let x4 : List ℕ = c.push_format.new.out.items in
    let x5 : List ℕ = c.push_fact.new.out.items in
    let x6 : List ℕ = c.extend_from_slice-3.new.self.items in
    let a2 : List ℕ = codes "RIFF" ++ four_bytes (c.args.samples + 50) in
    let a3 : List ℕ = a2 ++ codes "WAVE" in
    let a4 : List ℕ = a3 ++ mu_law_format in
    let a5 : List ℕ = a4 ++ fact_chunk c.args.samples in
    let e2 = then old x1 x2 (codes "RIFF") (four_bytes (c.args.samples + 50))
    c.in_ok-extend_from_slice.ensures.items c.in_ok-push_long.ensures in
    let e3 = then old x2 x3 a2 (codes "WAVE") e2 c.in_ok-extend_from_slice-2.ensures.items in
    let e4 = then old x3 x4 a3 mu_law_format e3 c.in_ok-push_format.ensures in
    let e5 = then old x4 x5 a4 (fact_chunk c.args.samples) e4 c.in_ok-push_fact.ensures in
    let e6 = then old x5 x6 a5 (codes "data") e5 c.in_ok-extend_from_slice-3.ensures.items in
    on_ok_weaker c.push_long-2.result
    (λ e. then old x6 c.push_long-2.new.out.items (a5 ++ codes "data") (four_bytes c.args.samples) e6 e)
    c.push_long-2.ensures
