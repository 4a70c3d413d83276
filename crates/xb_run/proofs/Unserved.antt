-- A post that was not served.
use Rattle.std.proofs.Common.{◌≡◌, ℕ, ◌<◌, true, false, List, [], ◌∷◌, length, get_or, sym, ◌∙◌, arith}
use Rattle.std.specs.List.{All}
use Rattle.std.proofs.lemmas.Bool.{false≢true}
use Rattle.xb_flow.specs.declared.post.Post.{Post}
use Rattle.xb_flow.specs.declared.post.Post.TheVariants.{Feed, Pulse, Register, Translate, Deal, Send, Gather, Tape}
use Rattle.xb_run.specs.Served.{AllServed, IsUnserved}
use Rattle.xb_run.specs.declared.done.StationDone.{StationDone}
use Rattle.xb_run.specs.declared.done.AllDone.{AllDone}

one_of : {A B : Type 0} (backs : List (StationDone A B)) (n : ℕ) → n < length backs → ((d : StationDone A B) → (get_or backs n d).served ≡ false)
    → All (λ back. back.served ≡ true) backs → ⊥
one_of [] n lt one all = absurd (omega (arith, lt))
one_of (back ∷ backs) n lt one all = false≢true (sym (one back) ∙ all n back lt)

-- not all were served
pub not_all : (done : AllDone) (post : Post) → IsUnserved done post → AllServed done → ⊥
not_all done Feed one all = false≢true (sym one ∙ all.feed)
not_all done Pulse one all = false≢true (sym one ∙ all.pulse)
not_all done Register one all = false≢true (sym one ∙ all.register)
not_all done Translate one all = false≢true (sym one ∙ all.translate)
not_all done Deal one all = false≢true (sym one ∙ all.deal)
not_all done (Send number) one all = one_of done.senders.items number one.0 one.1 all.senders
not_all done Gather one all = false≢true (sym one ∙ all.gather)
not_all done Tape one all = false≢true (sym one ∙ all.tape)
