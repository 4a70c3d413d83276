pub mod DialRuns
pub mod ReportParts
pub mod Reported
pub mod ReportedRuns
pub mod AllDigits
pub mod MeasuredTrains
pub mod ReportedFigures
