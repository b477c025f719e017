pub mod PackedImages
