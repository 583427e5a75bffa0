pub mod OwnRecord
