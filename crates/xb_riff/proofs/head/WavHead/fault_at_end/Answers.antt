use Rattle.std.proofs.Common.{◌∙◌, [], Err, ap, sym}
use Rattle.xb_riff.specs.declared.head.HeadPlace.{HeadPlace}
use Rattle.xb_riff.specs.Heads.{HeadSoFar, rest_of}
use Rattle.xb_riff.proofs.HeadLemmas.{fault_at, head_ends}
use Rattle.xb_riff.proofs.head.WavHead.fault_at_end.Goals as goal

pub returns-in-Chunk : goal.returns-in-Chunk
returns-in-Chunk c =
    ap (λ (h : HeadSoFar). rest_of h []) (sym c.self.view_is)
    ∙ head_ends c.self.inside.place c.self.inside.found c.self.inside.gathered.items c.self.invariant.place_is
    ∙ ap (λ (p : HeadPlace). Err (fault_at p)) c.in-Chunk.is

pub returns-in-Format : goal.returns-in-Format
returns-in-Format c =
    ap (λ (h : HeadSoFar). rest_of h []) (sym c.self.view_is)
    ∙ head_ends c.self.inside.place c.self.inside.found c.self.inside.gathered.items c.self.invariant.place_is
    ∙ ap (λ (p : HeadPlace). Err (fault_at p)) c.in-Format.is

pub returns-in-Passed : goal.returns-in-Passed
returns-in-Passed c =
    ap (λ (h : HeadSoFar). rest_of h []) (sym c.self.view_is)
    ∙ head_ends c.self.inside.place c.self.inside.found c.self.inside.gathered.items c.self.invariant.place_is
    ∙ ap (λ (p : HeadPlace). Err (fault_at p)) c.in-Passed.is
