pub mod RecordBytes
