-- The keyed entries of a page's text.
use Rattle.std.specs.Prelude.{◌≡◌, ◌<◌, ℕ, List, length, Ok, Err}
use Rattle.xb_page.specs.Entries.{Entry}
use Rattle.xb_page.specs.ReadPages.{entries_of_page}
use Rattle.xb_page.specs.declared.reading.TheConstants.{MOST_PAGE_BYTES}
use Rattle.xb_rx.specs.declared.keyed_pages.CompareFault.{CompareFault}
use Rattle.xb_rx.specs.declared.keyed_pages.CompareFault.TheVariants as fault
use Rattle.xb_rx.specs.Entries.{KeyedEntry}
use Rattle.xb_rx.specs.Keyed.{keyed_of}

-- these are the keyed entries of the page that a text is
abbrev pub IsKeyed : List ℕ → List KeyedEntry → Type 0
IsKeyed page keyed = (entries : List Entry) × (entries_of_page page ≡ Ok entries) × (keyed ≡ keyed_of entries)

-- what a fault says of a text
abbrev pub IsFaultOf : List ℕ → CompareFault → Type 0
IsFaultOf page (fault.Page f) = entries_of_page page ≡ Err f
IsFaultOf page fault.TooLong = MOST_PAGE_BYTES < length page
IsFaultOf page fault.NoMemory = Unit {0}
