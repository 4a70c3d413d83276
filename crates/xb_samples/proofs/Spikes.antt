-- What the first spike of a wire tells.
use Rattle.std.proofs.Common.{◌≡◌, ℤ, neg_ℤ, int_le, List, [], ◌∷◌, ◌++◌, Bool, true, false, Option, Some, None, cond, not, refl, ap, ◌∙◌}
use Rattle.std.specs.List.{AllByRecursion}
use Rattle.xb_contact.specs.declared.level.Level.{Level}
use Rattle.xb_contact.specs.declared.level.Level.TheVariants.{Open, Closed}
use Rattle.xb_contact.specs.Holds.{same_level}
use Rattle.xb_samples.specs.declared.sound.Heard.{Heard}
use Rattle.xb_samples.specs.declared.sound.Heard.TheVariants as heard
use Rattle.xb_samples.specs.Sounds.{first_heard, heard_by, is_at_rest, level_by, level_in, side_of}
use Rattle.xb_samples.specs.Spikes.{IsOnSide, SpikesTellLevels, heard_after}

-- the level of a sample that is on a side, and of one that is on none
level-on :
    (high sample : ℤ) (was level : Level) → side_of high sample ≡ Some level → level_by high was sample ≡ level
level-on high sample was level on = by (int_le high sample) (int_le sample (neg_ℤ high)) on
  where
    by :
        (above below : Bool)
        → ◌≡◌ {A = Option Level} (cond above (Some Closed) (cond below (Some Open) None)) (Some level)
        → cond above Closed (cond below Open was) ≡ level
    by true below e = cc
    by false true e = cc
    by false false e = cc

-- after a sample at rest a wire has a level, or it is at rest
abbrev Rests : Heard → Type 0
Rests own = (level : Level) (high sample : ℤ) → side_of high sample ≡ Some level
    → level_in (heard_by high own sample) ≡ Some level

rests-level : (was : Level) → Rests (heard.Level was)
rests-level was level high sample on = ap (λ l. Some l) (level-on high sample was level on)

rests-rest : Rests heard.Rest
rests-rest level high sample on =
    ap (λ side. level_in (first_heard side (is_at_rest high sample) heard.Rest)) on

quiet-rests :
    (high quiet : ℤ) (own : Heard) → side_of high quiet ≡ None → is_at_rest high quiet ≡ true
    → Rests (heard_by high own quiet)
quiet-rests high quiet (heard.Level was) none rest = rests-level (level_by high was quiet)
quiet-rests high quiet heard.Nothing none rest = λ level again sample on.
    ap (λ side. level_in (heard_by again (first_heard side (is_at_rest high quiet) heard.Nothing) sample)) none
    ∙ ap (λ b. level_in (heard_by again (cond b heard.Rest heard.Nothing) sample)) rest
    ∙ rests-rest level again sample on
quiet-rests high quiet heard.Rest none rest = λ level again sample on.
    ap (λ side. level_in (heard_by again (first_heard side (is_at_rest high quiet) heard.Rest) sample)) none
    ∙ ap (λ b. level_in (heard_by again (cond b heard.Rest heard.Rest) sample)) rest
    ∙ rests-rest level again sample on
quiet-rests high quiet (heard.Side side) none rest = λ level again sample on.
    ap (λ found. level_in (heard_by again (first_heard found (is_at_rest high quiet) (heard.Side side)) sample)) none
    ∙ ap (λ b. level_in (heard_by again (cond b heard.Rest (heard.Side side)) sample)) rest
    ∙ rests-rest level again sample on

after-rest :
    (high : ℤ) (own : Heard) (early : List ℤ) (quiet sample : ℤ) (level : Level) → side_of high quiet ≡ None
    → is_at_rest high quiet ≡ true → IsOnSide high level sample
    → level_in (heard_after high own (early ++ quiet ∷ sample ∷ [])) ≡ Some level
after-rest high own [] quiet sample level none rest on = quiet-rests high quiet own none rest level high sample on
after-rest high own (first ∷ early) quiet sample level none rest on =
    after-rest high (heard_by high own first) early quiet sample level none rest on

-- samples on one side
same-self : (level : Level) → same_level level level ≡ true
same-self Open = refl
same-self Closed = refl

side-stays :
    (high : ℤ) (level : Level) (samples : List ℤ) → AllByRecursion (IsOnSide high level) samples
    → level_in (heard_after high (heard.Side level) samples) ≡ None
side-stays high level [] all = refl
side-stays high level (sample ∷ rest) all =
    ap (λ side. level_in (heard_after high (first_heard side (is_at_rest high sample) (heard.Side level)) rest)) all.0
    ∙ ap (λ same. level_in (heard_after high (cond (not same) (heard.Level level) (heard.Side level)) rest)) (same-self level)
    ∙ side-stays high level rest all.1

on-one-side :
    (high : ℤ) (level : Level) (samples : List ℤ) → AllByRecursion (IsOnSide high level) samples
    → level_in (heard_after high heard.Nothing samples) ≡ None
on-one-side high level [] all = refl
on-one-side high level (sample ∷ rest) all =
    ap (λ side. level_in (heard_after high (first_heard side (is_at_rest high sample) heard.Nothing) rest)) all.0
    ∙ side-stays high level rest all.1

pub spikes_tell_levels : SpikesTellLevels
spikes_tell_levels = record {
  after_rest = λ high early quiet sample level none rest on.
      after-rest high heard.Nothing early quiet sample level none rest on;
  on_one_side = λ high level samples all. on-one-side high level samples all;
}
