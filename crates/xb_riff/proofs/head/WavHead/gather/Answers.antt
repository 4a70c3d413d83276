use Rattle.std.proofs.Common.{◌≡◌, ◌∙◌, List, ℕ, [], ◌∷◌, ◌++◌, Ok, Err, ap, sym, rules}
use Rattle.xb_riff.specs.declared.head.After.{After}
use Rattle.xb_riff.specs.declared.head.After.TheVariants as afters
use Rattle.xb_riff.specs.Heads.{after_says, rest_at}
use Rattle.xb_riff.proofs.HeadLemmas.{part_ends}
use Rattle.xb_riff.proofs.head.WavHead.gather.Goals as goal

pub returns-in-Ok-Samples-clause-taken : goal.returns-in-Ok-Samples-clause-taken
returns-in-Ok-Samples-clause-taken c =
    let is : c.in-Ok-Samples.field-0 ≡ afters.Samples c.in-Ok-Samples.format = cc in
    let part : c.deref.result.now ≡ c.self.inside.gathered.items ++ c.args.byte ∷ [] = cc in
    part_ends c.args.self.now c.self.inside.place c.self.inside.found c.self.inside.gathered.items c.deref.result.now
    c.args.byte (λ rest. Ok (c.in-Ok-Samples.format, rest)) c.self.view_is c.requires part
    (λ rest. c.in-Ok-Samples.ensures.says rest ∙ ap (λ (a : After). after_says (Ok a) rest) is)

pub returns-in-Ok-Part-clause-taken : goal.returns-in-Ok-Part-clause-taken
returns-in-Ok-Part-clause-taken c = λ rest.
    let is : c.in-Ok-Part.field-0 ≡ afters.Part c.in-Ok-Part.found c.in-Ok-Part.place = cc in
    let part : c.deref.result.now ≡ c.self.inside.gathered.items ++ c.args.byte ∷ [] = cc in
    let none : c.clear-in-Ok-Part.new.self.items ≡ [] = search rules in
    part_ends c.args.self.now c.self.inside.place c.self.inside.found c.self.inside.gathered.items c.deref.result.now
    c.args.byte (λ rest. rest_at c.in-Ok-Part.place c.in-Ok-Part.found [] rest) c.self.view_is c.requires part
    (λ rest. c.in-Ok-Part.ensures.says rest ∙ ap (λ (a : After). after_says (Ok a) rest) is) rest
    ∙ ap (λ (g : List ℕ). rest_at c.in-Ok-Part.place c.in-Ok-Part.found g rest) (sym none)

pub returns-in-Err-clause-refused : goal.returns-in-Err-clause-refused
returns-in-Err-clause-refused c =
    let part : c.deref.result.now ≡ c.self.inside.gathered.items ++ c.args.byte ∷ [] = cc in
    part_ends c.args.self.now c.self.inside.place c.self.inside.found c.self.inside.gathered.items c.deref.result.now
    c.args.byte (λ rest. Err c.in-Err.fault) c.self.view_is c.requires
    part c.in-Err.ensures.says
