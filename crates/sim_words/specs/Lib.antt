pub mod Lanes
pub mod Simulation
pub mod Stimulus
pub mod Wide
