pub mod VoltsDetermined
