pub mod Queues
