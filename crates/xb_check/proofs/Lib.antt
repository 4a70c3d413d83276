mod ReportTexts
mod Doubting
