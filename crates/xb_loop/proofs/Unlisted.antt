-- Why the wires of a recording are not listed.
use Rattle.std.proofs.Common.{◌≡◌, ℕ, ◌≤◌, List, [], ◌++◌, Bool, true, false, Option, None, Some, ap, sym, ◌∙◌, inl, inr, length, refl, arith}
use Rattle.std.specs.Prelude.{IfSome, ◌⊎◌}
use Rattle.std.specs.Io.KnownBytes.{Consumes, IsAtEnd}
use Rattle.xb_recording.specs.declared.format.Format.{Format}
use Rattle.xb_recording.specs.Beginnings.{form_told, tells_nothing_yet, why_untold}
use Rattle.xb_recording.proofs.ToldWithin.{why_same}
use Rattle.xb_loop.specs.declared.listing.ListFault.{ListFault}
use Rattle.xb_loop.specs.declared.listing.ListFault.TheVariants as faults
use Rattle.xb_loop.specs.declared.listing.TheConstants.{MOST_BEGINNING_BYTES}
use Rattle.xb_loop.specs.Listing.{BeginsUntold, IsFromOutside, IsUnlisted, TellsNoForm}

-- a read failed, or memory ran out
pub from_outside :
    (asked : Option Format) (fault : ListFault) (input : Option (List ℕ)) → IsFromOutside fault
    → IfSome input (λ text. IsUnlisted asked text fault)
from_outside asked fault None is = tt
from_outside asked (faults.Untold reason) (Some text) is = absurd is
from_outside asked (faults.Read unread) (Some text) is = tt
from_outside asked faults.NoMemory (Some text) is = tt

most-is : MOST_BEGINNING_BYTES ≡ 131072
most-is = refl

-- the beginning tells none, which is all of the recording, or long
pub begins_untold :
    (asked : Option Format) (fault : ListFault) (input left : Option (List ℕ)) (beginning : List ℕ) (is_end : Bool)
    → Consumes input left beginning → (is_end ≡ true → IsAtEnd left)
    → (is_end ≡ false → MOST_BEGINNING_BYTES ≤ length beginning) → asked ≡ None → BeginsUntold beginning is_end fault
    → IfSome input (λ text. IsUnlisted asked text fault)
begins_untold asked fault None left beginning is_end read end long none untold = tt
begins_untold asked fault (Some text) None beginning is_end read end long none untold = absurd read
begins_untold asked (faults.Read unread) (Some text) (Some rest) beginning is_end read end long none untold = absurd untold
begins_untold asked faults.NoMemory (Some text) (Some rest) beginning is_end read end long none untold = absurd untold
begins_untold asked (faults.Untold reason) (Some text) (Some rest) beginning is_end read end long none untold =
    let four : is_end ≡ false → 4 ≤ length beginning = λ going. let all = long going in omega (arith, all, most-is) in
    let same : why_untold text ≡ why_untold beginning = ap why_untold read ∙ why_same beginning rest is_end end four in
    (none, untold.0 ∙ sym same, at untold.1)
  where
    at :
        (((later : List ℕ) → (is_end ≡ true → later ≡ []) → form_told (beginning ++ later) ≡ None)
        ⊎ ((is_end ≡ false) × (tells_nothing_yet beginning ≡ true)))
        → TellsNoForm text
    at (inl all) = inl (ap form_told read ∙ all rest end)
    at (inr (going, nothing)) =
        inr (record { beginning = beginning; later = rest; are = read; long = long going; nothing = nothing })
