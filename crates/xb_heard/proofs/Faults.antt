-- A digit names what spoils its train: something exactly where it is spoiled, and the first.
use Rattle.std.proofs.Common.{◌≡◌, ℕ, suc, ◌+◌, ◌<◌, ◌≤◌, List, [], ◌∷◌, ◌++◌, Bool, true, false, ◌||◌, cond, nat_lt, refl, sym, ap, ◌∙◌, arith, Some, None, Option, is_some, IfSome, add-zero, zero-add}
use Rattle.std.specs.List.{list_any}
use Rattle.std.proofs.lemmas.Bool.{ltb-true, ltb-false, lt-ltb}
use Rattle.xb_model.specs.declared.row.Contact.{Contact}
use Rattle.xb_model.specs.declared.row.Contact.TheVariants.{Make, Brk, Close}
use Rattle.xb_model.specs.declared.limits.Limits.{Limits}
use Rattle.xb_model.specs.declared.signal.TheConstants.{MOST_PULSES}
use Rattle.xb_heard.specs.declared.run.PlacedRun.{PlacedRun}
use Rattle.xb_heard.specs.declared.fault.PulseFault.{PulseFault}
use Rattle.xb_heard.specs.declared.fault.PulseFault.TheVariants.{ShortBreak, LongBreak, ShortMake, TooManyPulses}
use Rattle.xb_heard.specs.declared.fault.Spoiler.{Spoiler}
use Rattle.xb_heard.specs.PlacedRuns.{placed}
use Rattle.xb_heard.specs.Faults.{spoiler, or_first, first_spoiler, is_out, breaks_among, IsTrueFault, IsFirstFault}

-- where n breaks stand before the runs of a train, it has a wrong run or too many breaks
abbrev is_spoiled_from : Limits → ℕ → List PlacedRun → Bool
is_spoiled_from L n R = list_any (is_out L) R || nat_lt MOST_PULSES (n + breaks_among R)

or-true : (a : Bool) → (a || true) ≡ true
or-true true = refl
or-true false = refl

-- a make: the count stays
make_named : (L : Limits) (n : ℕ) (q : PlacedRun) (R : List PlacedRun) (b : Bool)
    → is_some (first_spoiler L n R) ≡ is_spoiled_from L n R
    → is_some (or_first (cond b (Some ShortMake) None) q (first_spoiler L n R))
    ≡ ((b || list_any (is_out L) R) || nat_lt MOST_PULSES (n + breaks_among R))
make_named L n q R true rest = refl
make_named L n q R false rest = rest

-- a break: one more is counted
break_named : (L : Limits) (n : ℕ) (q : PlacedRun) (R : List PlacedRun) (short long many : Bool)
    → nat_lt MOST_PULSES (n + 1) ≡ many
    → (nat_lt MOST_PULSES (n + 1) ≡ false → is_some (first_spoiler L (n + 1) R) ≡ is_spoiled_from L (n + 1) R)
    → is_some (or_first (cond short (Some ShortBreak) (cond long (Some LongBreak) (cond many (Some TooManyPulses) None))) q
    (first_spoiler L (n + 1) R))
    ≡ (((short || long) || list_any (is_out L) R) || nat_lt MOST_PULSES (n + suc (breaks_among R)))
break_named L n q R true long many t rest = refl
break_named L n q R false true many t rest = refl
break_named L n q R false false true t rest =
    let over : MOST_PULSES < n + 1 = ltb-true _ _ t in
    let many : nat_lt MOST_PULSES (n + suc (breaks_among R)) ≡ true = lt-ltb _ _ (omega arith) in
    sym (ap (λ b. list_any (is_out L) R || b) many ∙ or-true _)
break_named L n q R false false false t rest =
    let same : n + 1 + breaks_among R ≡ n + suc (breaks_among R) = omega arith in
    rest t ∙ ap (λ k. list_any (is_out L) R || nat_lt MOST_PULSES k) same

-- something is named exactly where these runs spoil the train
named_from : (L : Limits) (n : ℕ) (R : List PlacedRun) → nat_lt MOST_PULSES n ≡ false
    → is_some (first_spoiler L n R) ≡ is_spoiled_from L n R
named_from L n [] few = rw (add-zero n) (sym few)
named_from L n (r ∷ R) few = at r.contact (named_from L n R few) (named_from L (n + 1) R)
  where
    at : (c : Contact) → is_some (first_spoiler L n R) ≡ is_spoiled_from L n R
        → (nat_lt MOST_PULSES (n + 1) ≡ false → is_some (first_spoiler L (n + 1) R) ≡ is_spoiled_from L (n + 1) R)
        → is_some (first_spoiler L n (placed c r.ms r.start r.first_record ∷ R))
        ≡ is_spoiled_from L n (placed c r.ms r.start r.first_record ∷ R)
    at Make same more = rw (add-zero n) (make_named L n (placed Make r.ms r.start r.first_record) R (nat_lt r.ms L.make_min) same)
    at Brk same more = break_named L n (placed Brk r.ms r.start r.first_record) R (nat_lt r.ms L.pulse_min) (nat_lt L.pulse_max r.ms) (nat_lt MOST_PULSES (n + 1)) refl more
    at Close same more = rw (add-zero n) same

-- what a fault says is so, where n breaks stand before these runs
abbrev IsTrueFrom : Limits → ℕ → List PlacedRun → PulseFault → PlacedRun → Type 0
IsTrueFrom L n before ShortBreak run = (run.contact ≡ Brk) × (run.ms < L.pulse_min)
IsTrueFrom L n before LongBreak run = (run.contact ≡ Brk) × (L.pulse_max < run.ms)
IsTrueFrom L n before ShortMake run = (run.contact ≡ Make) × (run.ms < L.make_min)
IsTrueFrom L n before TooManyPulses run = (run.contact ≡ Brk) × (n + breaks_among before ≡ MOST_PULSES)

record IsFirstFrom (L : Limits) (n : ℕ) (train : List PlacedRun) (found : Spoiler) : Type 0 where
  before : List PlacedRun
  after : List PlacedRun
  stands : train ≡ before ++ found.run ∷ after
  is_true : IsTrueFrom L n before found.fault found.run
  none_out : list_any (is_out L) before ≡ false
  few_breaks : nat_lt MOST_PULSES (n + breaks_among before) ≡ false

-- a good run before others: what is the first after it is the first
in_front : (L : Limits) (n k : ℕ) (q : PlacedRun) (R : List PlacedRun) (found : Spoiler)
    → is_out L q ≡ false → ((B : List PlacedRun) → n + breaks_among (q ∷ B) ≡ k + breaks_among B)
    → IsFirstFrom L k R found → IsFirstFrom L n (q ∷ R) found
in_front L n k q R found good counts first = record {
  before = q ∷ first.before;
  after = first.after;
  stands = ap (λ B. q ∷ B) first.stands;
  is_true = at found.fault first.is_true;
  none_out = rw (good, first.none_out) refl;
  few_breaks = ap (nat_lt MOST_PULSES) (counts first.before) ∙ first.few_breaks;
}
  where
    at : (fault : PulseFault) → IsTrueFrom L k first.before fault found.run → IsTrueFrom L n (q ∷ first.before) fault found.run
    at ShortBreak h = h
    at LongBreak h = h
    at ShortMake h = h
    at TooManyPulses h = (h.0, counts first.before ∙ h.1)

later : (L : Limits) (n k : ℕ) (q : PlacedRun) (R : List PlacedRun) (o : Option Spoiler)
    → is_out L q ≡ false → ((B : List PlacedRun) → n + breaks_among (q ∷ B) ≡ k + breaks_among B)
    → IfSome o (IsFirstFrom L k R) → IfSome o (IsFirstFrom L n (q ∷ R))
later L n k q R None good counts first = tt
later L n k q R (Some found) good counts first = in_front L n k q R found good counts first

-- the run before them is the first
here : (L : Limits) (n : ℕ) (q : PlacedRun) (R : List PlacedRun) (fault : PulseFault)
    → nat_lt MOST_PULSES n ≡ false → IsTrueFrom L n [] fault q → IsFirstFrom L n (q ∷ R) (spoiler fault q)
here L n q R fault few is = record {
  before = [];
  after = R;
  stands = refl;
  is_true = is;
  none_out = refl;
  few_breaks = rw (add-zero n) few;
}

make_first : (L : Limits) (n s i ms : ℕ) (R : List PlacedRun) (b : Bool) → nat_lt ms L.make_min ≡ b
    → nat_lt MOST_PULSES n ≡ false → IfSome (first_spoiler L n R) (IsFirstFrom L n R)
    → IfSome (or_first (cond b (Some ShortMake) None) (placed Make ms s i) (first_spoiler L n R)) (IsFirstFrom L n (placed Make ms s i ∷ R))
make_first L n s i ms R true t few rest = here L n (placed Make ms s i) R ShortMake few (refl, ltb-true _ _ t)
make_first L n s i ms R false t few rest =
    later L n n (placed Make ms s i) R (first_spoiler L n R) t (λ B. refl) rest

break_first : (L : Limits) (n s i ms : ℕ) (R : List PlacedRun) (short long many : Bool)
    → nat_lt ms L.pulse_min ≡ short → nat_lt L.pulse_max ms ≡ long → nat_lt MOST_PULSES (n + 1) ≡ many
    → nat_lt MOST_PULSES n ≡ false
    → (nat_lt MOST_PULSES (n + 1) ≡ false → IfSome (first_spoiler L (n + 1) R) (IsFirstFrom L (n + 1) R))
    → IfSome (or_first (cond short (Some ShortBreak) (cond long (Some LongBreak) (cond many (Some TooManyPulses) None)))
    (placed Brk ms s i) (first_spoiler L (n + 1) R)) (IsFirstFrom L n (placed Brk ms s i ∷ R))
break_first L n s i ms R true long many a b c few rest = here L n (placed Brk ms s i) R ShortBreak few (refl, ltb-true _ _ a)
break_first L n s i ms R false true many a b c few rest = here L n (placed Brk ms s i) R LongBreak few (refl, ltb-true _ _ b)
break_first L n s i ms R false false true a b c few rest =
    let over : MOST_PULSES < n + 1 = ltb-true _ _ c in
    let under : n ≤ MOST_PULSES = ltb-false _ _ few in
    here L n (placed Brk ms s i) R TooManyPulses few (refl, omega arith)
break_first L n s i ms R false false false a b c few rest =
    later L n (n + 1) (placed Brk ms s i) R (first_spoiler L (n + 1) R) (rw (a, b) refl) (λ B. omega arith) (rest c)

-- what is named is the first
first_from : (L : Limits) (n : ℕ) (R : List PlacedRun) → nat_lt MOST_PULSES n ≡ false
    → IfSome (first_spoiler L n R) (IsFirstFrom L n R)
first_from L n [] few = tt
first_from L n (r ∷ R) few = at r.contact (first_from L n R few) (first_from L (n + 1) R)
  where
    at : (c : Contact) → IfSome (first_spoiler L n R) (IsFirstFrom L n R)
        → (nat_lt MOST_PULSES (n + 1) ≡ false → IfSome (first_spoiler L (n + 1) R) (IsFirstFrom L (n + 1) R))
        → IfSome (first_spoiler L n (placed c r.ms r.start r.first_record ∷ R)) (IsFirstFrom L n (placed c r.ms r.start r.first_record ∷ R))
    at Make same more = rw (add-zero n) (make_first L n r.start r.first_record r.ms R (nat_lt r.ms L.make_min) refl few same)
    at Brk same more = break_first L n r.start r.first_record r.ms R (nat_lt r.ms L.pulse_min) (nat_lt L.pulse_max r.ms) (nat_lt MOST_PULSES (n + 1)) refl refl refl few more
    at Close same more = rw (add-zero n) (later L n n (placed Close r.ms r.start r.first_record) R (first_spoiler L n R) refl (λ B. refl) same)

-- the same of a whole train

pub is_named : (L : Limits) (R : List PlacedRun)
    → is_some (first_spoiler L 0 R) ≡ (list_any (is_out L) R || nat_lt MOST_PULSES (breaks_among R))
is_named L R = named_from L 0 R refl ∙ ap (λ k. list_any (is_out L) R || nat_lt MOST_PULSES k) (zero-add (breaks_among R))

whole : (L : Limits) (R : List PlacedRun) (found : Spoiler) → IsFirstFrom L 0 R found → IsFirstFault L R found
whole L R found first = record {
  before = first.before;
  after = first.after;
  stands = first.stands;
  is_true = at found.fault first.is_true;
  none_out = first.none_out;
  few_breaks = ap (nat_lt MOST_PULSES) (sym (zero-add (breaks_among first.before))) ∙ first.few_breaks;
}
  where
    at : (fault : PulseFault) → IsTrueFrom L 0 first.before fault found.run → IsTrueFault L first.before fault found.run
    at ShortBreak h = h
    at LongBreak h = h
    at ShortMake h = h
    at TooManyPulses h = (h.0, sym (zero-add (breaks_among first.before)) ∙ h.1)

pub is_first : (L : Limits) (R : List PlacedRun) → IfSome (first_spoiler L 0 R) (IsFirstFault L R)
is_first L R = by (first_spoiler L 0 R) (first_from L 0 R refl)
  where
    by : (o : Option Spoiler) → IfSome o (IsFirstFrom L 0 R) → IfSome o (IsFirstFault L R)
    by None h = tt
    by (Some found) h = whole L R found h
