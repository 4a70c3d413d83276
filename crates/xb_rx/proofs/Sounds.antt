-- What one call gives of the sound that is left.
use Rattle.std.proofs.Common.{◌≡◌, ◌∙◌, ℕ, ◌+◌, ◌<◌, ◌≤◌, Bool, true, false, List, [], ◌++◌, length, Option, Some, None, Ok, Err, option_map, ap, ap₂, arith, ℤ}
use Rattle.std.specs.Prelude.{if◌then◌else◌}
use Rattle.std.proofs.lemmas.List.{take_all}
use Rattle.xb_rx.specs.declared.coding.SampleForm.{SampleForm}
use Rattle.xb_rx.specs.declared.source.StreamFault.TheVariants as stream_fault
use Rattle.xb_rx.specs.Samples.{IsForm, Sound, group_bytes, sound_after, sound_with}
use Rattle.xb_rx.specs.Streams.{FillsUp, GivesSample, HearsGroup}
use Rattle.xb_rx.proofs.Samples.{next-sound, none-said, too-few}
use Rattle.xb_rx.proofs.Walks.{few-bytes}

-- no sample more is said to come
pub gives-none : (form : SampleForm) (before after : List ℤ) (said : ℕ) (counted : Bool) (old new : Option (List ℕ))
    → said ≡ 0
    → GivesSample (option_map (sound_after form before said counted) old) (Ok None)
    (option_map (sound_after form after said counted) new)
gives-none form before after said counted None new is = tt
gives-none form before after said counted (Some bytes) new is =
    ap (λ (m : ℕ). sound_after form before m counted bytes) is ∙ none-said form before counted bytes

module _ (form : SampleForm) (before : List ℤ) (buffer : List ℕ) (n : ℕ) (is : IsForm form) (some : 0 < group_bytes form)
    (size : length buffer ≡ group_bytes form) where
  -- the bytes of a sample were read
  pub gives-next : (after : List ℤ) (said less : ℕ) (counted : Bool) (x : ℤ) (old mid : Option (List ℕ))
      → HearsGroup form buffer before x after → FillsUp old mid buffer n → length buffer ≤ n → said ≡ less + 1
      → GivesSample (option_map (sound_after form before said counted) old) (Ok (Some x))
      (option_map (sound_after form after less counted) mid)
  gives-next after said less counted x None mid hears fills whole one = tt
  gives-next after said less counted x (Some bytes) None hears fills whole one = absurd fills.bytes
  gives-next after said less counted x (Some bytes) (Some left) hears fills whole one =
      let parts : bytes ≡ buffer ++ left = fills.bytes ∙ ap (λ xs. xs ++ left) (take_all n buffer whole) in
      ap₂ (λ (m : ℕ) (xs : List ℕ). sound_after form before m counted xs) one parts
      ∙ next-sound form is some buffer left before after x less counted size hears

  -- too few bytes were left
  module _ (said : ℕ) (counted : Bool) (old mid : Option (List ℕ)) (new : Option Sound) (fills : FillsUp old mid buffer n)
      (short : n < length buffer) where
    few : (bytes left : List ℕ) → FillsUp (Some bytes) (Some left) buffer n
        → sound_after form before said counted bytes ≡ sound_with [] (if counted then said else 0)
    few bytes left fills =
        let less = few-bytes bytes left buffer n fills.bytes (fills.end short) short in
        too-few form is some before said counted bytes (omega (arith, less, size))

    pub gives-cut : counted ≡ true → 0 < said
        → GivesSample (option_map (sound_after form before said counted) old) (Err (stream_fault.Cut said)) new
    gives-cut counts more = by old mid fills
      where
        by : (old mid : Option (List ℕ)) → FillsUp old mid buffer n
            → GivesSample (option_map (sound_after form before said counted) old) (Err (stream_fault.Cut said)) new
        by None mid fills = tt
        by (Some bytes) None fills = absurd fills.bytes
        by (Some bytes) (Some left) fills =
            (few bytes left fills ∙ ap (λ (b : Bool). sound_with [] (if b then said else 0)) counts, more)

    pub gives-end : counted ≡ false
        → GivesSample (option_map (sound_after form before said counted) old) (Ok None) new
    gives-end counts = by old mid fills
      where
        by : (old mid : Option (List ℕ)) → FillsUp old mid buffer n
            → GivesSample (option_map (sound_after form before said counted) old) (Ok None) new
        by None mid fills = tt
        by (Some bytes) None fills = absurd fills.bytes
        by (Some bytes) (Some left) fills =
            few bytes left fills ∙ ap (λ (b : Bool). sound_with [] (if b then said else 0)) counts
