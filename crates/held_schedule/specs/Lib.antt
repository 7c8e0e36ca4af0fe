pub mod HeldSchedule
