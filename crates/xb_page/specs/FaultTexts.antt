-- The text of each fault.
use Rattle.std.specs.Prelude.{ℕ, ◌++◌, List, codes, decimal}
use Rattle.xb_page.specs.declared.fault.PageFault.{PageFault}
use Rattle.xb_page.specs.declared.fault.PageFault.TheVariants as page

-- of a page
abbrev pub page_fault_text : PageFault → List ℕ
page_fault_text (page.Line number) = codes "text line " ++ decimal number ++ codes " has a wrong line"
page_fault_text (page.Early number) = codes "text line " ++ decimal number ++ codes " has a wrong line"
page_fault_text (page.Number number) =
    codes "text line " ++ decimal number ++ codes " has a wrong entry number"
page_fault_text (page.Kind number) =
    codes "text line " ++ decimal number ++ codes " is neither KEYED nor REFUSED"
page_fault_text (page.Key number) =
    codes "text line " ++ decimal number ++ codes " has a wrong trunk group or key"
page_fault_text (page.Refusal number) = codes "text line " ++ decimal number ++ codes " has a wrong refusal"
page_fault_text (page.Totals number) = codes "text line " ++ decimal number ++ codes " has wrong totals"
page_fault_text (page.NoTotals number) =
    codes "the page ends at text line " ++ decimal number ++ codes " without its totals"
page_fault_text (page.GoesOn number) = codes "text stands after the totals of text line " ++ decimal number
page_fault_text page.NoMemory = codes "out of memory"
