mod Displayed
mod Gathered
mod Places
mod Printed
