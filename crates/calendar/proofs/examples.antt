pub mod WardHours
