-- What raw samples say.
use Rattle.std.proofs.Common.{◌≡◌, ℕ, ◌+◌, ◌<◌, ◌≤◌, List, [], ◌∷◌, ◌++◌, Bool, true, false, Option, Some, None, cond, drop, eqb, get_or, length, refl, ap, sym, ◌∙◌, append_assoc, append-nil, arith}
use Rattle.std.proofs.Math.Bool.{not, not-not}
use Rattle.std.proofs.lemmas.Bool.Decides.{nat_tests}
use Rattle.std.specs.Option.{option_eq}
use Rattle.std.proofs.lemmas.List.{at_drop_all, at_drop_more}
use Rattle.xb_contact.specs.declared.event.Event.{Event}
use Rattle.xb_contact.specs.declared.event.Event.TheVariants as events
use Rattle.xb_contact.specs.declared.level.Level.{Level}
use Rattle.xb_samples.specs.Pieces.{begins_from, without_waits}
use Rattle.xb_samples.specs.declared.bits.Width.{Width}
use Rattle.xb_samples.specs.Samples.{BitsState, after_sample, bits_of, bit_level, bits_reading, events_by, is_same, sample_events, sample_levels, sample_with, state_by}
use Rattle.xb_samples.specs.Turns.{TurnsState, turns_after}
use Rattle.xb_samples.proofs.WaitLemmas.{SayWhen, until-begins}

pub bits_say_when : SayWhen bits_reading
bits_say_when state byte = at (sample_with state.width state.lower byte)
  where
    when :
        (sample tick : ℕ) (later : List Event) → tick ≤ state.count → begins_from tick (without_waits later) ≡ true → (same : Bool)
        → begins_from tick (without_waits (cond same [] (events.At state.count ∷ sample_levels 0 state.masks sample) ++ later)) ≡ true
    when sample tick later less h true = h
    when sample tick later less h false =
        until-begins tick state.count (without_waits (sample_levels 0 state.masks sample ++ later)) less

    at :
        (found : Option ℕ)
        → (state.count ≤ (state_by state byte found).count)
        × ((tick : ℕ) (later : List Event) → tick ≤ state.count → begins_from tick (without_waits later) ≡ true
        → begins_from tick (without_waits (events_by state found ++ later)) ≡ true)
    at None = (omega arith, λ tick later less h. h)
    at (Some sample) = (omega arith, λ tick later less h. when sample tick later less h (is_same state.last sample))

-- the level of one more wire
pub level_more :
    (masks : List ℕ) (i sample : ℕ) (level : Level) (mid now all : List Event) → i < length masks
    → level ≡ bit_level sample (get_or masks i 0) → now ≡ mid ++ events.Level i level ∷ []
    → mid ++ sample_levels i (drop i masks) sample ≡ all → now ++ sample_levels (i + 1) (drop (i + 1) masks) sample ≡ all
level_more masks i sample level mid now all h is e so_far =
    let rest : List Event = sample_levels (i + 1) (drop (i + 1) masks) sample in
    ap (λ (n : List Event). n ++ rest) e ∙ append_assoc mid (events.Level i level ∷ []) rest
    ∙ ap (λ (l : Level). mid ++ (events.Level i l ∷ rest)) is
    ∙ sym (at_drop_more (λ (k : List ℕ). mid ++ sample_levels i k sample) masks i 0 h) ∙ so_far

pub levels_whole :
    (masks : List ℕ) (i sample : ℕ) (now all : List Event) → length masks ≤ i
    → now ++ sample_levels i (drop i masks) sample ≡ all → now ≡ all
levels_whole masks i sample now all h so_far =
    sym (append-nil now) ∙ sym (at_drop_all (λ (k : List ℕ). now ++ sample_levels i k sample) masks i h) ∙ so_far

-- whether a sample is another one than that before
same-as : (last : Option ℕ) (sample : ℕ) → is_same last sample ≡ option_eq eqb last (Some sample)
same-as None sample = refl
same-as (Some own) sample = refl

same-by :
    (last : Option ℕ) (sample : ℕ) (differs : Bool) → differs ≡ not (option_eq eqb last (Some sample))
    → is_same last sample ≡ not differs
same-by last sample differs e =
    same-as last sample ∙ sym (not-not (option_eq eqb last (Some sample))) ∙ ap not (sym e)

last-is : (last : Option ℕ) (sample : ℕ) → is_same last sample ≡ true → Some sample ≡ last
last-is None sample e = cc
last-is (Some own) sample e =
    let is : sample ≡ own = grind (arith, nat_tests) in
    ap Some is

-- what it says
pub sample_says :
    (state : BitsState) (sample : ℕ) (differs : Bool) (old told new : List Event)
    → differs ≡ not (option_eq eqb state.last (Some sample)) → differs ≡ true → told ≡ old ++ events.At state.count ∷ []
    → new ≡ told ++ sample_levels 0 state.masks sample → new ≡ old ++ sample_events state sample
sample_says state sample differs old told new e is f g =
    let levels : List Event = sample_levels 0 state.masks sample in
    g ∙ ap (λ (t : List Event). t ++ levels) f ∙ append_assoc old (events.At state.count ∷ []) levels
    ∙ ap (λ (same : Bool). old ++ cond same [] (events.At state.count ∷ levels))
    (sym (same-by state.last sample differs e ∙ ap not is))

pub sample_silent :
    (state : BitsState) (sample : ℕ) (differs : Bool) (old new : List Event)
    → differs ≡ not (option_eq eqb state.last (Some sample)) → differs ≡ false → new ≡ old
    → new ≡ old ++ sample_events state sample
sample_silent state sample differs old new e is f =
    f ∙ sym (append-nil old)
    ∙ ap (λ (same : Bool). old ++ cond same [] (events.At state.count ∷ sample_levels 0 state.masks sample))
    (sym (same-by state.last sample differs e ∙ ap not is))

pub last_stays :
    (last : Option ℕ) (sample : ℕ) (differs : Bool) → differs ≡ not (option_eq eqb last (Some sample))
    → differs ≡ false → Some sample ≡ last
last_stays last sample differs e is = last-is last sample (same-by last sample differs e ∙ ap not is)

pub sample_counted :
    (state : BitsState) (sample : ℕ) (width : Width) (masks : List ℕ) (last : Option ℕ) (before count : ℕ) (turns : TurnsState)
    → width ≡ state.width → masks ≡ state.masks → last ≡ Some sample → before ≡ state.count → count ≡ before + 1
    → turns ≡ turns_after state.turns sample → bits_of width masks None last count turns ≡ after_sample state sample
sample_counted state sample width masks last before count turns w e f g h t =
    ap (λ (x : Width). bits_of x masks None last count turns) w
    ∙ ap (λ (m : List ℕ). bits_of state.width m None last count turns) e
    ∙ ap (λ (l : Option ℕ). bits_of state.width state.masks None l count turns) f
    ∙ ap (λ (n : ℕ). bits_of state.width state.masks None (Some sample) n turns) (h ∙ ap (λ (n : ℕ). n + 1) g)
    ∙ ap (λ (own : TurnsState). bits_of state.width state.masks None (Some sample) (state.count + 1) own) t
