use Rattle.std.proofs.Common.{◌≡◌, ℕ, List, ap, ◌∙◌, Bor, subst, length, arith, replicate}
use Rattle.std.proofs.lemmas.List.{length-map}
use Rattle.xb_contact.specs.declared.event.Event.{Event}
use Rattle.xb_recording.specs.Says.{names_in}
use Rattle.xb_loop.specs.declared.counts.Seen.{Seen}
use Rattle.xb_loop.specs.Counts.{IsCountedAfter, nothing_seen}
use Rattle.xb_loop.proofs.Counting.{has_edges}
use Rattle.xb_loop.proofs.listing.count.Goals as goal

pub returns : goal.returns
returns g c =
    let wanted = c.args.wanted.now in
    let few : c.len.result ≡ length (names_in wanted) =
    omega (arith, c.len.ensures, length-map wanted.wires.items (λ (name : Bor (List ℕ)). name.now)) in
    let first : c.in_ok-counts.counts.seen.items ≡ replicate (length (names_in wanted)) nothing_seen =
    c.in_ok-counts.ensures ∙ ap (λ (n : ℕ). replicate n nothing_seen) few in
    let F : List Seen → Type 0 = λ them. IsCountedAfter them c.deref.result.now c.take.new.self.seen.items in
    let S : List Event → Type 0 =
    λ said. IsCountedAfter (replicate (length (names_in wanted)) nothing_seen) said c.take.new.self.seen.items in
    let counted = subst S c.deref.ensures.value (subst F first c.take.ensures) in
    has_edges _ c.args.format wanted _ _ _ _ c.in_ok-reader.ensures.begun counted c.in_ok-edges_of.ensures
    c.in_ok-take_whole.ensures
