pub mod Spark
