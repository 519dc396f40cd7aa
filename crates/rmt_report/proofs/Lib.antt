mod Examples
mod MarkLaws
mod ReportLaws
