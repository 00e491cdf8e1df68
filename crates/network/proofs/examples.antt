pub mod WholeCaseOfRuns
