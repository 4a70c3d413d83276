use Rattle.std.proofs.Common.{◌≡◌, ◌∙◌, ◌++◌, List, ℕ, ap, append_assoc, string_bytes}
use Rattle.std.specs.Prelude.{codes, decimal}
use Rattle.std.proofs.lemmas.Result.{IfOk-weaker}
use Rattle.xb_measured.specs.Lines.{text_line}
use Rattle.xb_measured.proofs.key_line.text_line.Goals as goal

-- twelve parts, and what comes after them
regroup : (a b c d e f g h i j k l rest : List ℕ)
    → (a ++ (b ++ (c ++ (d ++ (e ++ (f ++ (g ++ (h ++ (i ++ (j ++ (k ++ l))))))))))) ++ rest
    ≡ a ++ (b ++ (c ++ (d ++ (e ++ (f ++ (g ++ (h ++ (i ++ (j ++ (k ++ (l ++ rest)))))))))))
regroup a b c d e f g h i j k l rest = simp append_assoc

-- what a line has from the level of the higher tone on
abbrev end_with : List ℕ → List ℕ → List ℕ → List ℕ → List ℕ → List ℕ
end_with high twist shape gap word =
    high ++ (codes " dBm0, twist " ++ (twist ++ (codes " dB, "
    ++ (shape ++ (codes ", " ++ (gap ++ (codes ": " ++ (word ++ codes "\n"))))))))

module _ (start length low_hz high_hz : ℕ) where
  abbrev line_with : List ℕ → List ℕ → List ℕ → List ℕ
  line_with name low end =
      name ++ (codes " at " ++ (decimal start ++ (codes " ms for " ++ (decimal length ++ (codes " ms, "
      ++ (decimal low_hz ++ (codes " Hz " ++ (low ++ (codes " dBm0, " ++ (decimal high_hz ++ (codes " Hz " ++ end)))))))))))

  -- the same as it is written, by twelve parts first
  abbrev grouped_with : List ℕ → List ℕ → List ℕ → List ℕ
  grouped_with name low end =
      (name ++ (codes " at " ++ (decimal start ++ (codes " ms for " ++ (decimal length ++ (codes " ms, "
      ++ (decimal low_hz ++ (codes " Hz " ++ (low ++ (codes " dBm0, " ++ (decimal high_hz ++ codes " Hz "))))))))))) ++ end

  regrouped : (name low end : List ℕ) → grouped_with name low end ≡ line_with name low end
  regrouped name low end =
      regroup name (codes " at ") (decimal start) (codes " ms for ") (decimal length) (codes " ms, ") (decimal low_hz)
      (codes " Hz ") low (codes " dBm0, ") (decimal high_hz) (codes " Hz ") end

  module _ (n l h t s g w : List ℕ) where
    same-parts : (m k i u r f v : List ℕ) → n ≡ m → l ≡ k → h ≡ i → t ≡ u → s ≡ r → g ≡ f → w ≡ v
        → line_with n l (end_with h t s g w) ≡ line_with m k (end_with i u r f v)
    same-parts m k i u r f v name low high twist shape gap word =
        ap (λ x. line_with x l (end_with h t s g w)) name
        ∙ ap (λ x. line_with m x (end_with h t s g w)) low
        ∙ ap (λ x. line_with m k (end_with x t s g w)) high
        ∙ ap (λ x. line_with m k (end_with i x s g w)) twist
        ∙ ap (λ x. line_with m k (end_with i u x g w)) shape
        ∙ ap (λ x. line_with m k (end_with i u r x w)) gap
        ∙ ap (λ x. line_with m k (end_with i u r f x)) word

pub returns : goal.returns
returns c =
    let figures = c.args.figures.now in
    let name = c.name-name.result.now in
    let low = string_bytes c.in_ok-low.low in
    let end = end_with (string_bytes c.in_ok-high.high) (string_bytes c.in_ok-twist.twist) (string_bytes c.in_ok-shape.shape) (string_bytes c.in_ok-gap.gap)
    (string_bytes c.in_ok-verdict.verdict) in
    let same = same-parts figures.start_ms figures.length_ms figures.low_hz figures.high_hz
    name low (string_bytes c.in_ok-high.high) (string_bytes c.in_ok-twist.twist) (string_bytes c.in_ok-shape.shape) (string_bytes c.in_ok-gap.gap)
    (string_bytes c.in_ok-verdict.verdict) _ _ _ _ _ _ _
    c.name-name.ensures c.in_ok-low.ensures c.in_ok-high.ensures c.in_ok-twist.ensures c.in_ok-shape.ensures c.in_ok-gap.ensures
    c.in_ok-verdict.ensures in
    IfOk-weaker c.format.result
    (λ line. string_bytes line ≡ grouped_with figures.start_ms figures.length_ms figures.low_hz figures.high_hz name low end)
    (λ line. string_bytes line ≡ text_line figures)
    (λ line is. is ∙ regrouped figures.start_ms figures.length_ms figures.low_hz figures.high_hz name low end ∙ same)
    c.format.ensures.ok
