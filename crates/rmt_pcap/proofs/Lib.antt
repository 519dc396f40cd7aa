mod Examples
mod FieldLaws
mod HeadLaws
mod RecordLaws
mod RoundTrip
