pub mod LinkMonitor
