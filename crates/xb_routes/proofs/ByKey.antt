-- The limits of a text, by each of their keys.
use Rattle.std.proofs.Common.{◌≡◌, ◌≢◌, ◌≤◌, ◌<◌, ℕ, ℤ, List, Bool, true, false, Option, Some, None, Result, Ok, Err, refl, sym, ap, ◌∙◌, inl, inr, ◌⊎◌, ◌↔◌, arith}
use Rattle.std.specs.Prelude.{pos, negsuc, codes, nat_le, nat_lt, ◌&&◌, option_and_then, if◌then◌else◌}
use Rattle.std.proofs.lemmas.Bool.{cases_Bool, cond-false, cond-true}
use Rattle.std.proofs.lemmas.Bool.Decides.{nat_tests}
use Rattle.toml.specs.Data.{Data, Members, as_integer, as_table, get_member}
use Rattle.xb_model.specs.declared.limits.Limits.{Limits}
use Rattle.xb_model.specs.declared.limits.TheConstants.{GREATEST_LIMIT}
use Rattle.xb_model.specs.LawfulLimits.{IsLawful, IsLimit, standard_limits}
use Rattle.xb_routes.specs.declared.fault.LimitFault.{LimitFault}
use Rattle.xb_routes.specs.declared.fault.LimitFault.TheVariants as broken
use Rattle.xb_routes.specs.PlanAndLimits.{in_order, limit_at, limit_of_number, limits_by, limits_of, limits_of_keys}
use Rattle.xb_routes.specs.Steps.{or_fault}
use Rattle.xb_routes.specs.ByKey.{AreLimitsAt, AreLimitsOf, FirstOf, IsFaultOfKeys, IsFaultOfLimits, IsFaultOfOrder, IsLimitAt, IsWrong, StandInOrder}
use Rattle.xb_routes.proofs.Steps.{both-option, either-option}

-- a number in range
abbrev in_range : ℕ → Bool
in_range n = nat_le 1 n && nat_le n GREATEST_LIMIT

is_limit : (n : ℕ) → in_range n ≡ true → IsLimit n
is_limit n e = (grind (arith, nat_tests), grind (arith, nat_tests))

limit-in : (n : ℕ) → IsLimit n → in_range n ≡ true
limit-in n h = grind (arith, nat_tests)

number-in : (n : ℕ) → IsLimit n → limit_of_number (pos n) ≡ Some n
number-in n h = cond-true _ _ _ (limit-in n h)

number-some : (z : ℤ) (x : ℕ) → limit_of_number z ≡ Some x → (z ≡ pos x) × IsLimit x
number-some (negsuc n) x e = absurd (cc)
number-some (pos n) x e = by (cases_Bool (in_range n))
  where
    by : (in_range n ≡ true) ⊎ (in_range n ≡ false) → (pos n ≡ pos x) × IsLimit x
    by (inl t) = let same : n ≡ x = cc (sym (cond-true _ _ _ t) ∙ e) in rw (← same) (refl, is_limit n t)
    by (inr f) = absurd (cc (sym (cond-false _ _ _ f) ∙ e))

number-none : (z : ℤ) → ((n : ℕ) → IsLimit n → z ≢ pos n) → limit_of_number z ≡ None
number-none (negsuc n) h = refl
number-none (pos n) h = by (cases_Bool (in_range n))
  where
    by : (in_range n ≡ true) ⊎ (in_range n ≡ false) → limit_of_number (pos n) ≡ None
    by (inl t) = absurd (h n (is_limit n t) refl)
    by (inr f) = cond-false _ _ _ f

-- what is read at a key, and what its value is
at-some : (held : Option Data) (d x : ℕ) → limit_at held d ≡ Some x → IsLimitAt held d x
at-some None d x e = cc
at-some (Some value) d x e = by (as_integer value) refl e
  where
    by : (o : Option ℤ) → as_integer value ≡ o → option_and_then limit_of_number o ≡ Some x → (as_integer value ≡ Some (pos x)) × IsLimit x
    by None g h = absurd (cc)
    by (Some z) g h = let n = number-some z x h in (g ∙ ap (λ i. Some i) n.0, n.1)

at-is : (held : Option Data) (d x : ℕ) → IsLimitAt held d x → limit_at held d ≡ Some x
at-is None d x h = ap (λ n. Some n) (sym h)
at-is (Some value) d x h = ap (option_and_then limit_of_number) h.0 ∙ number-in x h.1

at-none : (held : Option Data) (d : ℕ) → limit_at held d ≡ None → IsWrong held
at-none None d e = absurd (cc)
at-none (Some value) d e =
    λ n h same. absurd (cc (sym e ∙ ap (option_and_then limit_of_number) same ∙ number-in n h))

at-wrong : (held : Option Data) (d : ℕ) → IsWrong held → limit_at held d ≡ None
at-wrong None d w = absurd w
at-wrong (Some value) d w = by (as_integer value) refl
  where
    by : (o : Option ℤ) → as_integer value ≡ o → option_and_then limit_of_number (as_integer value) ≡ None
    by None g = ap (option_and_then limit_of_number) g
    by (Some z) g = ap (option_and_then limit_of_number) g ∙ number-none z (λ n h same. w n h (g ∙ ap (λ i. Some i) same))

at-right : (held : Option Data) (d : ℕ) → ¬ IsWrong held → (x : ℕ) × (limit_at held d ≡ Some x)
at-right held d right = by (limit_at held d) refl
  where
    by : (o : Option ℕ) → limit_at held d ≡ o → (x : ℕ) × (limit_at held d ≡ Some x)
    by None e = absurd (right (at-none held d e))
    by (Some x) e = (x, e)

-- a key that is wrong is the fault, or else a later one is
module _ (first : LimitFault) (held : Option Data) (d : ℕ) (next : ℕ → Result Limits LimitFault) (f : LimitFault) (Later : Type 0) where
  refused-at : ((x : ℕ) → limit_at held d ≡ Some x → next x ≡ Err f → Later)
      → or_fault first (limit_at held d) next ≡ Err f → FirstOf f first (IsWrong held) Later
  refused-at later e = by (limit_at held d) refl e
    where
      by : (o : Option ℕ) → limit_at held d ≡ o → or_fault first o next ≡ Err f → FirstOf f first (IsWrong held) Later
      by None g h = inl (at-none held d g, cc)
      by (Some x) g h = inr ((λ w. absurd (cc (sym g ∙ at-wrong held d w))), later x g h)

  refuses-at : ((x : ℕ) → limit_at held d ≡ Some x → Later → next x ≡ Err f)
      → FirstOf f first (IsWrong held) Later → or_fault first (limit_at held d) next ≡ Err f
  refuses-at later (inl (wrong, same)) = rw (at-wrong held d wrong) (ap (λ g. Err g) (sym same))
  refuses-at later (inr (right, rest)) =
      let x = at-right held d right in
      rw x.1 (later x.0 x.1 rest)

-- a test of two limits
module _ (b : Bool) (g : LimitFault) (rest : Result Limits LimitFault) where
  abbrev tested : Result Limits LimitFault
  tested = if b then Err g else rest

  tested-ok : (limits : Limits) → tested ≡ Ok limits → (b ≡ false) × (rest ≡ Ok limits)
  tested-ok limits e = by (cases_Bool b)
    where
      by : (b ≡ true) ⊎ (b ≡ false) → (b ≡ false) × (rest ≡ Ok limits)
      by (inl t) = absurd (cc (sym (cond-true _ _ _ t) ∙ e))
      by (inr h) = (h, sym (cond-false _ _ _ h) ∙ e)

  tested-err : (f : LimitFault) → tested ≡ Err f → ((b ≡ true) × (f ≡ g)) ⊎ ((b ≡ false) × (rest ≡ Err f))
  tested-err f e = by (cases_Bool b)
    where
      by : (b ≡ true) ⊎ (b ≡ false) → ((b ≡ true) × (f ≡ g)) ⊎ ((b ≡ false) × (rest ≡ Err f))
      by (inl t) = inl (t, cc (sym (cond-true _ _ _ t) ∙ e))
      by (inr h) = inr (h, sym (cond-false _ _ _ h) ∙ e)

less : (a b : ℕ) → a < b → nat_lt a b ≡ true
less a b h = grind (arith, nat_tests)

less-not : (a b : ℕ) → b ≤ a → nat_lt a b ≡ false
less-not a b h = grind (arith, nat_tests)

is_less : (a b : ℕ) → nat_lt a b ≡ true → a < b
is_less a b e = grind (arith, nat_tests)

is_less-not : (a b : ℕ) → nat_lt a b ≡ false → b ≤ a
is_less-not a b e = grind (arith, nat_tests)

most : (a b : ℕ) → a ≤ b → nat_le a b ≡ true
most a b h = grind (arith, nat_tests)

most-not : (a b : ℕ) → b < a → nat_le a b ≡ false
most-not a b h = grind (arith, nat_tests)

is_most : (a b : ℕ) → nat_le a b ≡ true → a ≤ b
is_most a b e = grind (arith, nat_tests)

is_most-not : (a b : ℕ) → nat_le a b ≡ false → b < a
is_most-not a b e = grind (arith, nat_tests)

-- limits that stand in their order, and the first fault of it
in_order-is : (limits : Limits) → StandInOrder limits → in_order limits ≡ Ok limits
in_order-is limits h =
    rw (
      less-not limits.pulse_max limits.pulse_min h.pulses_first,
      most-not limits.release limits.pulse_max h.pulses_under,
      less-not limits.pause limits.make_min h.makes_under,
      most-not limits.timeout limits.pause h.pause_under,
    ) refl

in_order-ok : (l m : Limits) → in_order l ≡ Ok m → (l ≡ m) × StandInOrder l
in_order-ok l m e =
    let a = tested-ok _ _ _ m e in
    let b = tested-ok _ _ _ m a.1 in
    let c = tested-ok _ _ _ m b.1 in
    let d = tested-ok _ _ _ m c.1 in (
      cc d.1,
      record {
        pulses_first = is_less-not _ _ a.0;
        pulses_under = is_most-not _ _ b.0;
        makes_under = is_less-not _ _ c.0;
        pause_under = is_most-not _ _ d.0;
      },
    )

in_order-err : (l : Limits) (f : LimitFault) → in_order l ≡ Err f → IsFaultOfOrder l f
in_order-err l f e = pulses (tested-err _ _ _ f e)
  where
    last : (rest : Result Limits LimitFault) → ((nat_le l.timeout l.pause ≡ true) × (f ≡ broken.PauseNotUnderTimeout)) ⊎ ((nat_le l.timeout l.pause ≡ false) × (Ok l ≡ Err f))
        → (l.timeout ≤ l.pause) × (f ≡ broken.PauseNotUnderTimeout)
    last rest (inl (t, same)) = (is_most _ _ t, same)
    last rest (inr (t, h)) = absurd (cc h)

    makes : ((nat_lt l.pause l.make_min ≡ true) × (f ≡ broken.MakeMinOverPause))
        ⊎ ((nat_lt l.pause l.make_min ≡ false) × ((if nat_le l.timeout l.pause then Err broken.PauseNotUnderTimeout else Ok l) ≡ Err f))
        → FirstOf f broken.MakeMinOverPause (l.pause < l.make_min) ((l.timeout ≤ l.pause) × (f ≡ broken.PauseNotUnderTimeout))
    makes (inl (t, same)) = inl (is_less _ _ t, same)
    makes (inr (t, h)) = inr ((λ less. absurd (omega (arith, is_less-not l.pause l.make_min t, less))), last (Ok l) (tested-err _ _ _ f h))

    release : ((nat_le l.release l.pulse_max ≡ true) × (f ≡ broken.PulseMaxNotUnderRelease))
        ⊎ ((nat_le l.release l.pulse_max ≡ false)
        × ((if nat_lt l.pause l.make_min then Err broken.MakeMinOverPause else if nat_le l.timeout l.pause then Err broken.PauseNotUnderTimeout else Ok l) ≡ Err f))
        → FirstOf f broken.PulseMaxNotUnderRelease (l.release ≤ l.pulse_max) (FirstOf f broken.MakeMinOverPause (l.pause < l.make_min) ((l.timeout ≤ l.pause) × (f ≡ broken.PauseNotUnderTimeout)))
    release (inl (t, same)) = inl (is_most _ _ t, same)
    release (inr (t, h)) = inr ((λ most. absurd (omega (arith, is_most-not l.release l.pulse_max t, most))), makes (tested-err _ _ _ f h))

    pulses : ((nat_lt l.pulse_max l.pulse_min ≡ true) × (f ≡ broken.PulseMinOverPulseMax))
        ⊎ ((nat_lt l.pulse_max l.pulse_min ≡ false)
        × ((if nat_le l.release l.pulse_max then Err broken.PulseMaxNotUnderRelease else if nat_lt l.pause l.make_min then Err broken.MakeMinOverPause
        else if nat_le l.timeout l.pause then Err broken.PauseNotUnderTimeout else Ok l) ≡ Err f))
        → IsFaultOfOrder l f
    pulses (inl (t, same)) = inl (is_less _ _ t, same)
    pulses (inr (t, h)) = inr ((λ less. absurd (omega (arith, is_less-not l.pulse_max l.pulse_min t, less))), release (tested-err _ _ _ f h))

not_less : (a b : ℕ) → ¬ (a < b) → nat_lt a b ≡ false
not_less a b h = by (cases_Bool (nat_lt a b))
  where
    by : (nat_lt a b ≡ true) ⊎ (nat_lt a b ≡ false) → nat_lt a b ≡ false
    by (inl t) = absurd (h (is_less a b t))
    by (inr f) = f

not_most : (a b : ℕ) → ¬ (a ≤ b) → nat_le a b ≡ false
not_most a b h = by (cases_Bool (nat_le a b))
  where
    by : (nat_le a b ≡ true) ⊎ (nat_le a b ≡ false) → nat_le a b ≡ false
    by (inl t) = absurd (h (is_most a b t))
    by (inr f) = f

in_order-refused : (l : Limits) (f : LimitFault) → IsFaultOfOrder l f → in_order l ≡ Err f
in_order-refused l f (inl (h, same)) = rw (less l.pulse_max l.pulse_min h) (ap (λ g. Err g) (sym same))
in_order-refused l f (inr (a, inl (h, same))) =
    rw (not_less l.pulse_max l.pulse_min a, most l.release l.pulse_max h) (ap (λ g. Err g) (sym same))
in_order-refused l f (inr (a, inr (b, inl (h, same)))) =
    rw (not_less l.pulse_max l.pulse_min a, not_most l.release l.pulse_max b, less l.pause l.make_min h) (ap (λ g. Err g) (sym same))
in_order-refused l f (inr (a, inr (b, inr (c, (h, same))))) =
    rw (not_less l.pulse_max l.pulse_min a, not_most l.release l.pulse_max b, not_less l.pause l.make_min c, most l.timeout l.pause h)
    (ap (λ g. Err g) (sym same))

-- the limits of six numbers
abbrev limits_with : ℕ → ℕ → ℕ → ℕ → ℕ → ℕ → Limits
limits_with a b c d e t = record { pulse_min = a; pulse_max = b; make_min = c; pause = d; release = e; timeout = t }

-- lawful limits are taken by their numbers
pub numbers-are : (limits : Limits) → IsLawful limits → limits_by limits ≡ Ok limits
numbers-are limits h =
    rw (
      number-in limits.pulse_min h.each.pulse_min,
      number-in limits.pulse_max h.each.pulse_max,
      number-in limits.make_min h.each.make_min,
      number-in limits.pause h.each.pause,
      number-in limits.release h.each.release,
      number-in limits.timeout h.each.timeout,
    )
    (in_order-is limits (record {
      pulses_first = h.pulses_first;
      pulses_under = h.pulses_under;
      makes_under = h.makes_under;
      pause_under = h.pause_under;
    }))

module _ (keys : Members) where
  abbrev key : List ℕ → Option Data
  key name = get_member name keys

  abbrev after_release : ℕ → ℕ → ℕ → ℕ → ℕ → Result Limits LimitFault
  after_release a b c d e =
      or_fault broken.Timeout (limit_at (key (codes "timeout")) standard_limits.timeout) (λ t. in_order (limits_with a b c d e t))

  abbrev after_pause : ℕ → ℕ → ℕ → ℕ → Result Limits LimitFault
  after_pause a b c d =
      or_fault broken.Release (limit_at (key (codes "release")) standard_limits.release) (after_release a b c d)

  abbrev after_make_min : ℕ → ℕ → ℕ → Result Limits LimitFault
  after_make_min a b c =
      or_fault broken.Pause (limit_at (key (codes "pause")) standard_limits.pause) (after_pause a b c)

  abbrev after_pulse_max : ℕ → ℕ → Result Limits LimitFault
  after_pulse_max a b =
      or_fault broken.MakeMin (limit_at (key (codes "make_min")) standard_limits.make_min) (after_make_min a b)

  abbrev after_pulse_min : ℕ → Result Limits LimitFault
  after_pulse_min a =
      or_fault broken.PulseMax (limit_at (key (codes "pulse_max")) standard_limits.pulse_max) (after_pulse_max a)

  keys-ok : (limits : Limits) → limits_of_keys keys ≡ Ok limits → AreLimitsOf keys limits × StandInOrder limits
  keys-ok limits h =
      let a = both-option ℕ Limits broken.PulseMin (limit_at (key (codes "pulse_min")) standard_limits.pulse_min) after_pulse_min limits h in
      let b = both-option ℕ Limits broken.PulseMax (limit_at (key (codes "pulse_max")) standard_limits.pulse_max) (after_pulse_max a.0) limits a.2 in
      let c = both-option ℕ Limits broken.MakeMin (limit_at (key (codes "make_min")) standard_limits.make_min) (after_make_min a.0 b.0) limits b.2 in
      let d = both-option ℕ Limits broken.Pause (limit_at (key (codes "pause")) standard_limits.pause) (after_pause a.0 b.0 c.0) limits c.2 in
      let e = both-option ℕ Limits broken.Release (limit_at (key (codes "release")) standard_limits.release) (after_release a.0 b.0 c.0 d.0) limits d.2 in
      let t = both-option ℕ Limits broken.Timeout (limit_at (key (codes "timeout")) standard_limits.timeout) (λ t. in_order (limits_with a.0 b.0 c.0 d.0 e.0 t)) limits e.2 in
      let ordered = in_order-ok (limits_with a.0 b.0 c.0 d.0 e.0 t.0) limits t.2 in
      rw (← ordered.0) (
        record {
          pulse_min = at-some (key (codes "pulse_min")) standard_limits.pulse_min a.0 a.1;
          pulse_max = at-some (key (codes "pulse_max")) standard_limits.pulse_max b.0 b.1;
          make_min = at-some (key (codes "make_min")) standard_limits.make_min c.0 c.1;
          pause = at-some (key (codes "pause")) standard_limits.pause d.0 d.1;
          release = at-some (key (codes "release")) standard_limits.release e.0 e.1;
          timeout = at-some (key (codes "timeout")) standard_limits.timeout t.0 t.1;
        },
        ordered.1,
      )

  keys-are : (limits : Limits) → AreLimitsOf keys limits → StandInOrder limits → limits_of_keys keys ≡ Ok limits
  keys-are limits h ordered =
      rw (
        at-is (key (codes "pulse_min")) standard_limits.pulse_min limits.pulse_min h.pulse_min,
        at-is (key (codes "pulse_max")) standard_limits.pulse_max limits.pulse_max h.pulse_max,
        at-is (key (codes "make_min")) standard_limits.make_min limits.make_min h.make_min,
        at-is (key (codes "pause")) standard_limits.pause limits.pause h.pause,
        at-is (key (codes "release")) standard_limits.release limits.release h.release,
        at-is (key (codes "timeout")) standard_limits.timeout limits.timeout h.timeout,
      )
      (in_order-is limits ordered)

  keys-err : (f : LimitFault) → limits_of_keys keys ≡ Err f → IsFaultOfKeys keys f
  keys-err f h =
      refused-at broken.PulseMin _ _ after_pulse_min f _ (λ a is_a h.
      refused-at broken.PulseMax _ _ (after_pulse_max a) f _ (λ b is_b h.
      refused-at broken.MakeMin _ _ (after_make_min a b) f _ (λ c is_c h.
      refused-at broken.Pause _ _ (after_pause a b c) f _ (λ d is_d h.
      refused-at broken.Release _ _ (after_release a b c d) f _ (λ e is_e h.
      refused-at broken.Timeout _ _ (λ t. in_order (limits_with a b c d e t)) f _ (λ t is_t h. (
        limits_with a b c d e t,
        record {
          pulse_min = at-some (key (codes "pulse_min")) standard_limits.pulse_min a is_a;
          pulse_max = at-some (key (codes "pulse_max")) standard_limits.pulse_max b is_b;
          make_min = at-some (key (codes "make_min")) standard_limits.make_min c is_c;
          pause = at-some (key (codes "pause")) standard_limits.pause d is_d;
          release = at-some (key (codes "release")) standard_limits.release e is_e;
          timeout = at-some (key (codes "timeout")) standard_limits.timeout t is_t;
        },
        in_order-err (limits_with a b c d e t) f h,
      )) h) h) h) h) h) h

  keys-refused : (f : LimitFault) → IsFaultOfKeys keys f → limits_of_keys keys ≡ Err f
  keys-refused f h =
      refuses-at broken.PulseMin _ _ after_pulse_min f _ (λ a is_a h.
      refuses-at broken.PulseMax _ _ (after_pulse_max a) f _ (λ b is_b h.
      refuses-at broken.MakeMin _ _ (after_make_min a b) f _ (λ c is_c h.
      refuses-at broken.Pause _ _ (after_pause a b c) f _ (λ d is_d h.
      refuses-at broken.Release _ _ (after_release a b c d) f _ (λ e is_e h.
      refuses-at broken.Timeout _ _ (λ t. in_order (limits_with a b c d e t)) f _ (λ t is_t (later : (limits : Limits) × AreLimitsOf keys limits × IsFaultOfOrder limits f).
      let same : limits_with a b c d e t ≡ later.0 = all_same later.0 a b c d e t later.1 is_a is_b is_c is_d is_e is_t in
      ap in_order same ∙ in_order-refused later.0 f later.2) h) h) h) h) h) h
    where
      all_same : (limits : Limits) (a b c d e t : ℕ) → AreLimitsOf keys limits
          → limit_at (key (codes "pulse_min")) standard_limits.pulse_min ≡ Some a
          → limit_at (key (codes "pulse_max")) standard_limits.pulse_max ≡ Some b
          → limit_at (key (codes "make_min")) standard_limits.make_min ≡ Some c
          → limit_at (key (codes "pause")) standard_limits.pause ≡ Some d
          → limit_at (key (codes "release")) standard_limits.release ≡ Some e
          → limit_at (key (codes "timeout")) standard_limits.timeout ≡ Some t
          → limits_with a b c d e t ≡ limits
      all_same limits a b c d e t h is_a is_b is_c is_d is_e is_t =
          let a1 : a ≡ limits.pulse_min = cc (sym is_a ∙ at-is (key (codes "pulse_min")) standard_limits.pulse_min limits.pulse_min h.pulse_min) in
          let b1 : b ≡ limits.pulse_max = cc (sym is_b ∙ at-is (key (codes "pulse_max")) standard_limits.pulse_max limits.pulse_max h.pulse_max) in
          let c1 : c ≡ limits.make_min = cc (sym is_c ∙ at-is (key (codes "make_min")) standard_limits.make_min limits.make_min h.make_min) in
          let d1 : d ≡ limits.pause = cc (sym is_d ∙ at-is (key (codes "pause")) standard_limits.pause limits.pause h.pause) in
          let e1 : e ≡ limits.release = cc (sym is_e ∙ at-is (key (codes "release")) standard_limits.release limits.release h.release) in
          let t1 : t ≡ limits.timeout = cc (sym is_t ∙ at-is (key (codes "timeout")) standard_limits.timeout limits.timeout h.timeout) in
          rw (a1, b1, c1, d1, e1, t1) refl

-- the limits at the key `limits` are exactly those of its keys
pub limits-accepted : (held : Option Data) (limits : Limits) → (limits_of held ≡ Ok limits) ↔ AreLimitsAt held limits
limits-accepted None limits = ((λ e. cc), (λ same. ap (λ l. Ok l) (sym same)))
limits-accepted (Some value) limits = (to, from)
  where
    to : limits_of (Some value) ≡ Ok limits → AreLimitsAt (Some value) limits
    to e =
        let t = both-option Members Limits broken.NotTable (as_table value) limits_of_keys limits e in
        let k = keys-ok t.0 limits t.2 in
        (t.0, t.1, k.0, k.1)

    from : AreLimitsAt (Some value) limits → limits_of (Some value) ≡ Ok limits
    from (keys, table, are, ordered) = rw table (keys-are keys limits are ordered)

-- and they are refused by exactly their first fault
pub limits-refused : (held : Option Data) (f : LimitFault) → (limits_of held ≡ Err f) ↔ IsFaultOfLimits held f
limits-refused None f = ((λ e. absurd (cc)), (λ none. absurd none))
limits-refused (Some value) f = (to, from)
  where
    to : limits_of (Some value) ≡ Err f → IsFaultOfLimits (Some value) f
    to e = by (either-option Members Limits broken.NotTable (as_table value) limits_of_keys f e)
      where
        by : ((as_table value ≡ None) × (f ≡ broken.NotTable))
            ⊎ ((keys : Members) × (as_table value ≡ Some keys) × (limits_of_keys keys ≡ Err f)) → IsFaultOfLimits (Some value) f
        by (inl none) = inl none
        by (inr (keys, table, why)) = inr (keys, table, keys-err keys f why)

    from : IsFaultOfLimits (Some value) f → limits_of (Some value) ≡ Err f
    from (inl (none, same)) = rw none (ap (λ g. Err g) (sym same))
    from (inr (keys, table, why)) = rw table (keys-refused keys f why)
