-- What is written of keys that are heard: the page of their keyings, or a line for each, or objects, or what shows
-- them.
use Rattle.std.specs.Prelude.{ℕ, List, [], None, false}
use Rattle.xb_measured.specs.declared.heard.Heard.{Heard}
use Rattle.xb_measured.specs.Lines.{text_lines}
use Rattle.xb_rx.specs.declared.listing.Listing.{Listing}
use Rattle.xb_rx.specs.declared.report.Report.{Report}
use Rattle.xb_rx.specs.declared.report.Report.TheVariants as report
use Rattle.xb_rx.specs.declared.request.Written.{Written}
use Rattle.xb_rx.specs.declared.request.Written.TheVariants as written
use Rattle.xb_rx.specs.declared.parts.Sheet.TheVariants as sheet
use Rattle.xb_shown.specs.Pictures.{nothing_drawn}
use Rattle.xb_svg.specs.Drawings.{Looks}
use Rattle.xb_rx.specs.Begun.{IsBegun}
use Rattle.xb_rx.specs.Objects.{Objected, fresh_objects, object_lines, objected, objects_rest}
use Rattle.xb_rx.specs.Shown.{Shown, fresh_parts, html_of, parts_rest, shown, svg_of}
use Rattle.xb_rx.specs.Timed.{Timing}
use Rattle.xb_rx.specs.Pages.{Paged, fresh_page, page_of, page_rest, page_told, paged, told_of}

-- what is written of a sound with these keys, by the looks of its pictures
abbrev pub written_text : Timing → Written → List Heard → (ℕ → Looks) → List ℕ
written_text timing (written.Page line trunk) keys styles = page_of line trunk keys
written_text timing written.Keys keys styles = text_lines None keys
written_text timing written.Objects keys styles = object_lines timing keys
written_text timing written.Sections keys styles = html_of keys styles
written_text timing written.Picture keys styles = svg_of keys styles

-- and what is told of what is doubtful of them, and of those that stand in no keying, where it is its page
abbrev pub told_text : Written → List Heard → List ℕ
told_text (written.Page line trunk) keys = told_of keys
told_text written.Keys keys = []
told_text written.Objects keys = []
told_text written.Sections keys = []
told_text written.Picture keys = []

-- what a page has so far, or the last key that was told, or what the objects have so far, or what is shown so far
pub data Reported : Type 0 where
  on_page : Paged → Reported
  by_key : Listing → Reported
  by_object : Timing → Objected → Reported
  by_part : Shown → Reported

abbrev pub reported : Timing → Report → Reported
reported timing (report.Page page) = on_page (paged page)
reported timing (report.Keys listing) = by_key listing
reported timing (report.Objects objects) = by_object timing (objected objects)
reported timing (report.Parts parts) = by_part (shown parts)

-- before the first key
abbrev pub fresh_report : Timing → Written → Reported
fresh_report timing (written.Page line trunk) = on_page (fresh_page line trunk)
fresh_report timing written.Keys = by_key (record { last = None })
fresh_report timing written.Objects = by_object timing fresh_objects
fresh_report timing written.Sections = by_part (fresh_parts (sheet.Page false))
fresh_report timing written.Picture = by_part (fresh_parts (sheet.Picture nothing_drawn))

-- what is still to be written of later keys, and told
abbrev pub listing_rest : Listing → List Heard → List ℕ
listing_rest listing later = text_lines listing.last later

abbrev pub report_rest : Reported → List Heard → (ℕ → Looks) → List ℕ
report_rest (on_page page) = λ later styles. page_rest page later
report_rest (by_key listing) = λ later styles. listing_rest listing later
report_rest (by_object timing objects) = λ later styles. objects_rest timing objects later
report_rest (by_part parts) = λ later styles. parts_rest parts later styles

abbrev pub told_rest : Reported → List Heard → List ℕ
told_rest (on_page page) later = page_told page later
told_rest (by_key listing) later = []
told_rest (by_object timing objects) later = []
told_rest (by_part parts) later = []

-- how many entries there were
abbrev pub count_of : Reported → ℕ
count_of (on_page page) = page.count
count_of (by_key listing) = 0
count_of (by_object timing objects) = objects.count
count_of (by_part parts) = parts.count

-- a keying that goes on is one
abbrev pub IsReady : Reported → Type 0
IsReady (on_page page) = IsBegun page.begun
IsReady (by_key listing) = Unit {0}
IsReady (by_object timing objects) = IsBegun objects.begun
IsReady (by_part parts) = IsBegun parts.begun
