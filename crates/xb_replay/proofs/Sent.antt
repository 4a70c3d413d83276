-- What was sent so far is a prefix of what is sent in all, and with the End it is all of it.
use Rattle.std.proofs.Common.{◌≡◌, ℕ, ◌<◌, Bool, true, List, [], length, get_or, sym, ap, ◌∙◌, subst}
use mathlib.Core.List.{IsPrefix}
use Rattle.std.specs.List.{flat_map, list_all}
use Rattle.std.proofs.lemmas.List.Sums.{AllPass-from_list_all}
use Rattle.rtrb.specs.declared.producer.Producer.{Producer}
use Rattle.rtrb.specs.declared.consumer.Consumer.{Consumer}
use Rattle.rtrb.specs.Ring.{sent, received, known_items}
use Rattle.xb_model.specs.Image.{Machine, image}
use Rattle.xb_flow.specs.declared.flow.Flow.{Flow}
use Rattle.xb_branches.specs.declared.gathered.Gathered.{Gathered}
use Rattle.xb_branches.specs.Dealt.{dealt}
use Rattle.xb_branches.specs.Deals.{DealOf, DealLaw, held_for}
use Rattle.xb_flow.specs.Flows.{items_of, has_end}
use Rattle.xb_branches.specs.Gathers.{GatherLawOf}
use Rattle.xb_branches.specs.GatherSteps.{items_at, ended_in, to_send}
use Rattle.xb_branches.specs.Merged.{merged, IsPiece}
use Rattle.xb_flow.specs.Rings.{IsRing}
use Rattle.xb_station.specs.Stations.{StationLaw}
use Rattle.xb_flow.proofs.Flows.{items_of-prefix, items_of-ended, has_end-ended, flow-front, flow-whole}
use Rattle.xb_station.proofs.ImagePrefixes.{image-prefix}
use Rattle.xb_branches.proofs.Merged.{merged_prefix, merged_same, merged_whole}
use Rattle.xb_flow.proofs.Prefixes.{prefix_on}

module _ {X A P : Type 0} (p : Producer (Flow X) A P) (c : Consumer (Flow X) A P) (r : IsRing p c) where
  -- the items received are the first of those sent
  pub ring-prefix : IsPrefix (items_of (received c)) (items_of (sent p))
  ring-prefix = subst (λ zs. IsPrefix (items_of (received c)) (items_of zs)) r.fifo (items_of-prefix (received c) (known_items c))

  -- once the End was received they are the same, and the End was sent
  pub ring-whole : has_end (received c) ≡ true → (items_of (received c) ≡ items_of (sent p)) × (has_end (sent p) ≡ true)
  ring-whole h = (
    sym (items_of-ended (received c) (known_items c) h) ∙ ap items_of r.fifo,
    ap has_end (sym r.fifo) ∙ has_end-ended (received c) (known_items c) h,
  )

module _ {I O S : Type 0} (line : I → ℕ) (m : Machine I O S) (ins : List (Flow I)) (outs pending : List (Flow O))
    (l : StationLaw line m ins outs pending) (xs : List I) where
  -- of the first of some items, a station sends the first of their image
  pub station-prefix : IsPrefix (items_of ins) xs → IsPrefix (items_of outs) (image line m xs)
  station-prefix p =
      let all = image line m (items_of ins) in
      prefix_on (items_of outs) all (image line m xs) (flow-front outs pending all (has_end ins) l.image_of) (image-prefix line m (items_of ins) xs p)

  -- once its End was sent, it received the End, and sent the image of all
  pub station-whole : has_end outs ≡ true → (has_end ins ≡ true) × (items_of ins ≡ xs → items_of outs ≡ image line m xs)
  station-whole h =
      let w = flow-whole outs pending (image line m (items_of ins)) (has_end ins) l.image_of h in
      (w.1, λ e. w.0 ∙ ap (image line m) e)

module _ {T A P Q : Type 0} (d : DealOf T A P Q) (law : DealLaw d) (j : ℕ) (p : Producer (Flow T) A Q) (within : j < length d.producers) where
  abbrev outs : List (Flow T)
  outs = sent (get_or d.producers j p)

  -- what went to an output are the first of the items dealt to it
  pub deal-prefix : IsPrefix (items_of outs) (dealt (length d.producers) j (items_of (received d.consumer)))
  deal-prefix = flow-front outs (held_for d.held d.place j) _ _ (law.law j p within)

  -- once its End was sent, it is all of them
  pub deal-whole : has_end outs ≡ true → (items_of outs ≡ dealt (length d.producers) j (items_of (received d.consumer))) × (has_end (received d.consumer) ≡ true)
  deal-whole = flow-whole outs (held_for d.held d.place j) _ _ (law.law j p within)

module _ {T : Type 0} (ends : T → Bool) (ins : List (List (Flow T))) (outs : List (Flow T)) (held : Gathered T) (place : ℕ)
    (g : GatherLawOf ends ins outs held place) where
  abbrev inputs : ℕ
  inputs = length ins

  -- what was sent with the End is all that is merged
  merged-whole : has_end outs ≡ true → (items_of outs ≡ merged ends inputs (items_at ins)) × (list_all has_end ins ≡ true)
  merged-whole = flow-whole outs (to_send held) (merged ends inputs (items_at ins)) (list_all has_end ins) g.law

  module _ {I : Type 0} (f : I → List T) (whole : (x : I) → IsPiece ends (f x)) (xs : List I) where
    abbrev lists : ℕ → List T
    lists j = flat_map f (dealt inputs j xs)

    -- where each input gave the first of what the items dealt to its branch give, the first of what
    -- all give was sent
    pub gather-prefix : ((j : ℕ) → j < inputs → IsPrefix (items_at ins j) (lists j)) → IsPrefix (items_of outs) (flat_map f xs)
    gather-prefix parts =
        prefix_on (items_of outs) (merged ends inputs (items_at ins)) (flat_map f xs)
        (flow-front outs (to_send held) (merged ends inputs (items_at ins)) (list_all has_end ins) g.law)
        (subst (IsPrefix (merged ends inputs (items_at ins))) (merged_whole ends inputs g.least f whole xs)
        (merged_prefix ends inputs g.least (items_at ins) lists parts))

    -- where each gave all, all was sent with the End
    pub gather-whole : has_end outs ≡ true → ((j : ℕ) → j < inputs → items_at ins j ≡ lists j) → items_of outs ≡ flat_map f xs
    gather-whole h all =
        (merged-whole h).0 ∙ merged_same ends inputs g.least (items_at ins) lists all ∙ merged_whole ends inputs g.least f whole xs

  -- once the End was sent, that of each input was received
  pub gather-ended : has_end outs ≡ true → (j : ℕ) → j < inputs → ended_in ins j ≡ true
  gather-ended h j k = AllPass-from_list_all has_end ins (merged-whole h).1 j [] k
