pub mod PassedRecords
