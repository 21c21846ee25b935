-- Laws about the library's tests, numbers and options.
-- Assumes nothing.
pub mod Tests
pub mod Numbers
pub mod Options
