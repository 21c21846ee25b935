-- Laws about codes and rules in our codes.
-- Assumes nothing.
pub mod Codes
pub mod Rules
