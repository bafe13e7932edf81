mod Charges
mod Shapes
