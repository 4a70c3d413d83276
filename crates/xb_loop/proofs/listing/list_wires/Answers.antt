use Rattle.std.proofs.Common.{◌≡◌, ℕ, List, [], ◌++◌, Err, Some, true, ap, rules, subst, ◌∙◌}
use Rattle.std.specs.Prelude.{IfNone}
use Rattle.xb_recording.specs.Beginnings.{form_told}
use Rattle.xb_loop.specs.Names.{named_by}
use Rattle.xb_loop.specs.Wires.{names_told}
use Rattle.xb_loop.specs.declared.listing.ListFault.TheVariants.{NoMemory}
use Rattle.xb_loop.specs.Listing.{BeginsUntold}
use Rattle.xb_loop.proofs.Counting.{lists_wires}
use Rattle.xb_loop.proofs.Unlisted.{begins_untold, from_outside}
use Rattle.xb_loop.proofs.listing.list_wires.Goals as goal

pub returns-clause-listed : goal.returns-clause-listed
returns-clause-listed g c =
    let is_end = c.in_ok-beginning.is_end in
    let format = c.in_ok-format.format in
    let T : List ℕ → Type 0 =
    λ b. IfNone c.args.asked ((later : List ℕ) → (is_end ≡ true → later ≡ []) → form_told (b ++ later) ≡ Some format) in
    lists_wires (g.R.Read.remaining c.args.input.now) (g.R.Read.remaining c.read_beginning.new.input)
    c.in_ok-beginning.beginning.items is_end c.args.asked c.args.sound.0 c.args.sound.1 format _
    c.in_ok-beginning.ensures.read c.in_ok-beginning.ensures.end c.in_ok-beginning.ensures.long c.in_ok-format.ensures.asked
    (subst T c.deref.ensures.value c.in_ok-format.ensures.told)
    (c.in_ok-wires.ensures ∙ ap (λ b. named_by (names_told format is_end b)) c.deref-2.ensures.value)
    (rw (c.deref-3.ensures.value, c.deref-4.ensures.value) at c.in_ok-edges.ensures.counted)

pub returns-in_err-beginning-clause-fault : goal.returns-in_err-beginning-clause-fault
returns-in_err-beginning-clause-fault g c =
    let fault : c.from_residual.result ≡ Err c.in_err-beginning.field-0.0 = search rules in
    rw fault
    (from_outside c.args.asked c.in_err-beginning.field-0.0 (g.R.Read.remaining c.args.input.now) c.in_err-beginning.ensures.failed)

pub returns-in_err-format-clause-fault : goal.returns-in_err-format-clause-fault
returns-in_err-format-clause-fault g c =
    let fault : c.from_residual-in_err-format.result ≡ Err c.in_err-format.field-0.0 = search rules in
    let is_end = c.in_ok-beginning.is_end in
    rw fault
    (begins_untold c.args.asked c.in_err-format.field-0.0 (g.R.Read.remaining c.args.input.now)
    (g.R.Read.remaining c.read_beginning.new.input) c.in_ok-beginning.beginning.items is_end
    c.in_ok-beginning.ensures.read c.in_ok-beginning.ensures.end c.in_ok-beginning.ensures.long c.in_err-format.ensures.none
    (subst (λ b. BeginsUntold b is_end c.in_err-format.field-0.0) c.deref.ensures.value c.in_err-format.ensures.untold))

pub returns-in_err-wires-clause-fault : goal.returns-in_err-wires-clause-fault
returns-in_err-wires-clause-fault g c =
    let fault : c.from_residual-in_err-wires.result ≡ Err NoMemory = search rules in
    rw fault (from_outside c.args.asked NoMemory (g.R.Read.remaining c.args.input.now) tt)

pub returns-in_err-edges-clause-fault : goal.returns-in_err-edges-clause-fault
returns-in_err-edges-clause-fault g c =
    let fault : c.from_residual-in_err-edges.result ≡ Err c.in_err-edges.field-0.0 = search rules in
    rw fault
    (from_outside c.args.asked c.in_err-edges.field-0.0 (g.R.Read.remaining c.args.input.now) c.in_err-edges.ensures.failed)
