pub mod Unwinding
